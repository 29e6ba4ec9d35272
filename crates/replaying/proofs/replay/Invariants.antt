use Rattle.std.proofs.Common.{◌≡◌, length}
use Rattle.replaying.specs.Replayed.{Replaying}
use Rattle.replaying.proofs.replay.Given as goal

abbrev pub invariant-loop : goal.invariant-loop
invariant-loop g l = Replaying l.fn.image l.fn.out l.image l.line l.out l.begun × (length l.block ≡ 4096)
