use Rattle.std.proofs.Common.{◌<◌, sym, subst, ◌∙◌}
use Rattle.std.proofs.lemmas.Result.{IfOk-weaker}
use Rattle.handle_table.specs.Places.{Store}
use Rattle.core_state.specs.Numbering.{count_by}
use Rattle.core_state.proofs.Leaving.{few_by, left_is}
use Rattle.event_tables.specs.AsCore.{state_of}
use Rattle.event_steps.proofs.left.left.Goals as goal

pub open_things-requires : goal.open_things-requires
open_things-requires c = λ sort seq.
    subst (λ (table : Store). count_by sort table seq < 4294967296) (sym c.places.ensures)
    (few_by (state_of c.args.tables.now) c.requires sort seq)

pub returns : goal.returns
returns c =
    let still = rw c.places.ensures at c.open_things.ensures in
    IfOk-weaker c.open_things.result _ _ (λ things e. e ∙ left_is (state_of c.args.tables.now) c.requires) still
