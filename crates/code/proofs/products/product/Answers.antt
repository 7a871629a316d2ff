-- The tables hold the products of both parts.
use Rattle.code.proofs.TapProducts.{product_at}
use Rattle.code.proofs.products.product.Goals as goal

pub returns : goal.returns
returns c = rw (c.from.ensures, c.from-2.ensures) (product_at c.args.a c.args.p c.requires.0 c.requires.1)
