-- What a commutative group and a field are: their operations, and the laws of those.
use Rattle.std.specs.Prelude.{◌≡◌, ◌≢◌}

pub record Group (F : Type 0) : Type 0 where
  pub zero : F
  pub plus : F → F → F
  pub minus : F → F

pub record AddLaws {F : Type 0} (g : Group F) : Type 0 where
  pub left : (x : F) → g.plus g.zero x ≡ x
  pub comm : (x y : F) → g.plus x y ≡ g.plus y x
  pub assoc : (x y z : F) → g.plus (g.plus x y) z ≡ g.plus x (g.plus y z)
  pub opposite : (x : F) → g.plus x (g.minus x) ≡ g.zero

pub record Ring (F : Type 0) : Type 0 where
  pub one : F
  pub times : F → F → F
  pub over : F → F

-- `over` is the inverse of each element but zero; at zero it may be anything.
pub record FieldLaws {F : Type 0} (g : Group F) (r : Ring F) : Type 0 where
  pub adds : AddLaws g
  pub left : (x : F) → r.times r.one x ≡ x
  pub comm : (x y : F) → r.times x y ≡ r.times y x
  pub assoc : (x y z : F) → r.times (r.times x y) z ≡ r.times x (r.times y z)
  pub spread : (x y z : F) → r.times x (g.plus y z) ≡ g.plus (r.times x y) (r.times x z)
  pub inverse : (x : F) → (x ≢ g.zero) → r.times x (r.over x) ≡ r.one
  pub proper : r.one ≡ g.zero → ⊥
