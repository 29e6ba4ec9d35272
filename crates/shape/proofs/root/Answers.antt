-- `shape::root` meets its contract. Assumes nothing.
use Rattle.rules.specs.declared.ChangeTransitionAction.TheVariants.{Nothing}
use Rattle.store.specs.Layout.{parse}
use Rattle.holds.specs.Granted.{result_place, rule-granted}
use Rattle.shape.specs.Grantable.{root_grantable}
use Rattle.shape.specs.Refused.{root_is}
use Rattle.shape.proofs.root.Goals as goal

pub grant_placed-requires : goal.grant_placed-requires
grant_placed-requires c =
    let may-grant = root_grantable _ c.requires.sound in
    let both = result_place _ _ c.requires.formed _ _ c.new_root-placed.ensures may-grant.in_use in
    record { formed = both.0; in_place = both.1 }

pub returns : goal.returns
returns c =
    rw (root_is (parse c.args.image.now))
    (rule-granted _ _ c.requires.formed _ _ c.new_root-placed.ensures Nothing _ _
    (root_grantable _ c.requires.sound).unwritten c.grant_placed.ensures)
