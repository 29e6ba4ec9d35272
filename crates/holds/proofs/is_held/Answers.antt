-- `holds::is_held` meets its contract. Assumes nothing.
use Rattle.holds.specs.Granted.{no_place, past_the_end}
use Rattle.holds.proofs.is_held.Goals as goal

pub returns-then-n-eq0 : goal.returns-then-n-eq0
returns-then-n-eq0 c = no_place _ _ c.if-n-eq0.true

pub returns-then-n-shape_count : goal.returns-then-n-shape_count
returns-then-n-shape_count c = past_the_end _ _ (rw (← c.shape_count.ensures) c.if-n-shape_count.true)
