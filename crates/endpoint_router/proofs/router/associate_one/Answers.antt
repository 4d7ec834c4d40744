use Rattle.std.proofs.Common.{ap, ◌∙◌, ℕ}
use Rattle.std.specs.Prelude.{Some, if◌then◌else◌, ◌==◌, Option}
use Rattle.endpoint_router.specs.Rows.{RowSeen, has_place, own_id, row_at, row_of}
use Rattle.endpoint_router.proofs.Placed.{place_still, row_still}
use Rattle.endpoint_router.proofs.router.associate_one.Goals as goal

pub enter-requires-clause-absent : goal.enter-requires-clause-absent
enter-requires-clause-absent c =
    row_still c.args.router.now c.new_id-id.new.self c.new_id-id.ensures.rows c.new_id-id.result
    ∙ (ap (row_at c.args.router.now) c.new_id-id.ensures.id ∙ c.requires.absent)

pub enter-requires-clause-place : goal.enter-requires-clause-place
enter-requires-clause-place c =
    place_still c.args.router.now c.new_id-id.new.self c.new_id-id.ensures.rows c.new_id-id.result
    ∙ (ap (has_place c.args.router.now) c.new_id-id.ensures.id ∙ c.requires.place)

pub returns : goal.returns
returns c =
    record {
      rows = λ n.
          c.enter.ensures.rows n
          ∙ (ap (λ (row : RowSeen). if c.new_id-id.result == n then Some row else row_at c.new_id-id.new.self n) c.new.ensures
          ∙ (ap (λ (k : ℕ). if k == n then Some (row_of c.args.endpoint) else row_at c.new_id-id.new.self n) c.new_id-id.ensures.id
          ∙ ap (λ (o : Option RowSeen). if own_id c.args.router.now == n then Some (row_of c.args.endpoint) else o)
          (row_still c.args.router.now c.new_id-id.new.self c.new_id-id.ensures.rows n)));
      drawn = c.enter.ensures.rest.drawn ∙ c.new_id-id.ensures.drawn;
    }
