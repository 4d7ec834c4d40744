use Rattle.std.proofs.Common.{Some, ap, refl, ◌∙◌}
use Rattle.std.specs.Prelude.{Option, if◌then◌else◌, ◌==◌}
use Rattle.std.proofs.lemmas.Bool.{eq-eqb}
use Rattle.endpoint_router.specs.Rows.{RowSeen, row_at, row_of}
use Rattle.endpoint_router.proofs.router.enter_one.Goals as goal

pub enter-requires-clause-absent : goal.enter-requires-clause-absent
enter-requires-clause-absent c = c.in_ok-reserve.ensures.rows c.args.id ∙ c.requires

pub enter-requires-clause-place : goal.enter-requires-clause-place
enter-requires-clause-place c = c.in_ok-reserve.ensures.ok c.args.id ∙ rw (eq-eqb c.args.id c.args.id refl) refl

pub returns-clause-ok : goal.returns-clause-ok
returns-clause-ok c =
    record {
      rows = λ n.
          c.enter.ensures.rows n
          ∙ (ap (λ (row : RowSeen). if c.args.id == n then Some row else row_at c.reserve.new.self n) c.new.ensures
          ∙ ap (λ (o : Option RowSeen). if c.args.id == n then Some (row_of c.args.endpoint) else o) (c.in_ok-reserve.ensures.rows n));
      drawn = c.enter.ensures.rest.drawn ∙ c.in_ok-reserve.ensures.drawn;
    }
