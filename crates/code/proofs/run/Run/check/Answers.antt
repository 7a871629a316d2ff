-- Which answers bring the fault.
use Rattle.code.proofs.InARow.{run_faults}
use Rattle.code.proofs.run.Run.check.Goals as goal

pub returns-clause-law : goal.returns-clause-law
returns-clause-law c = run_faults

pub returns-then-self-eq-FAULT-clause-law : goal.returns-then-self-eq-FAULT-clause-law
returns-then-self-eq-FAULT-clause-law c = run_faults
