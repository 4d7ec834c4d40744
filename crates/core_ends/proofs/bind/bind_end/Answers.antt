use Rattle.std.proofs.Common.{◌≡◌, true, false, refl, sym, ◌∙◌}
use Rattle.std.specs.Prelude.{Result, Ok, Err, OnOk, is_err}
use Rattle.std.proofs.lemmas.Bool.{lt-ltb}
use Rattle.handle_table.specs.declared.thing.Thing.TheVariants.{End}
use Rattle.bind_model.proofs.Fresh.{kept}
use Rattle.core_state.specs.Routers.{router_at}
use Rattle.core_state.specs.Agreement.{past_of, schema_of, wire_in}
use Rattle.core_state.proofs.Facts.{out_unbound}
use Rattle.core_ends.proofs.Binding.{bind_told}
use Rattle.core_ends.proofs.Bound.{bind_done}
use Rattle.core_state.proofs.Steady.{found_is}
use Rattle.core_state.proofs.Turned.{no_row}
use Rattle.core_ends.proofs.bind.bind_end.Goals as goal

ok_of : {Y E A : Type 0} (r : Result Y E) → is_err r ≡ false → OnOk r A → A
ok_of (Ok v) e h = h
ok_of (Err x) e h = absurd cc

pub enter-requires : goal.enter-requires
enter-requires c =
    let s = c.args.state.now in
    let h = c.requires.able.holds in
    no_row (router_at s.endpoints c.args.end) 0
    (found_is h.agrees c.args.end 0
    ∙ out_unbound (wire_in s) (past_of s) (kept (wire_in s) s.seqs (past_of s) h.legal) c.args.end 0 c.requires.held)

pub returns-clause-done : goal.returns-clause-done
returns-clause-done c =
    let s = c.args.state.now in
    bind_done s _ c.args.seq c.requires.able refl refl refl refl c.args.handle c.args.end c.args.side c.args.interface c.requires.end c.requires.held
    (bind_told (schema_of s) s.seqs (past_of s) c.args.seq (End c.args.end) c.args.side c.args.interface true (sym c.requires.held)
    (lt-ltb _ _ c.requires.there))
    (ok_of c.enter.result (sym c.is_err.ensures.value ∙ c.if-is_err.false) c.enter.ensures.ok)
    c.put.ensures c.push_reserved.ensures.events
