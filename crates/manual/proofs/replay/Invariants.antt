-- `manual::replay` meets its contract: the image stays sound, so that no line tests it. Assumes nothing.
use Rattle.std.proofs.Common.{length}
use Rattle.stepping.specs.Answering.{Ready}
use Rattle.manual.proofs.replay.Given as goal

abbrev pub invariant-loop-rest : goal.invariant-loop-rest
invariant-loop-rest g l = Ready l.image

abbrev pub decreases-loop-rest : goal.decreases-loop-rest
decreases-loop-rest g l = length l.rest
