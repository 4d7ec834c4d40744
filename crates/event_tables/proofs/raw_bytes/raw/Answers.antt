use Rattle.std.proofs.Common.{◌≡◌, ℕ, Bool, List, ap, sym, ◌∙◌}
use Rattle.std.specs.Prelude.{Result}
use Rattle.mj_base.specs.declared.ids.EndId.{EndId}
use Rattle.handle_table.specs.declared.thing.Thing.{Thing}
use Rattle.bind_model.specs.declared.told.Why.{Why}
use Rattle.core_sending.specs.steps.Raw.{all_out_with, raw_way}
use Rattle.core_sending.proofs.RawWays.{raw_refused}
use Rattle.core_state.specs.declared.state.State.{State}
use Rattle.event_tables.specs.AsCore.{state_of}
use Rattle.event_tables.proofs.raw_bytes.raw.Goals as goal

-- the way as it is asked for is that of the things, by whether somebody has them
way_is : (s : State) (thing : Thing) (bytes : List ℕ) (things one other : List Thing) (own : Bool) (way : Result EndId Why) → one ≡ things → other ≡ things
    → own ≡ all_out_with s.pipes thing one → way ≡ raw_way thing bytes other own s.pipes s.tables.flows
    → raw_way thing bytes things (all_out_with s.pipes thing things) s.pipes s.tables.flows ≡ way
way_is s thing bytes things one other own way e f o w =
    sym (w
    ∙ (ap (λ (hs : List Thing). raw_way thing bytes hs own s.pipes s.tables.flows) f
    ∙ ap (λ (b : Bool). raw_way thing bytes things b s.pipes s.tables.flows) (o ∙ ap (λ (hs : List Thing). all_out_with s.pipes thing hs) e)))

pub write-requires-clause-free : goal.write-requires-clause-free
write-requires-clause-free c =
    way_is (state_of c.args.tables.now) c.args.thing c.args.bytes c.args.things c.as_slice.result.now c.as_slice-2.result.now c.in_ok-own.own _
    c.as_slice.ensures c.as_slice-2.ensures c.in_ok-own.ensures c.in-Ok.ensures

pub refuse-requires-clause-why : goal.refuse-requires-clause-why
refuse-requires-clause-why c =
    raw_refused (state_of c.args.tables.now) c.args.seq (record { handle = c.args.thing; bytes = c.args.bytes; handles = c.args.things })
    (record { able = c.requires; prepared = tt }) c.in-Err.why
    (way_is (state_of c.args.tables.now) c.args.thing c.args.bytes c.args.things c.as_slice.result.now c.as_slice-2.result.now c.in_ok-own.own _
    c.as_slice.ensures c.as_slice-2.ensures c.in_ok-own.ensures c.in-Err.ensures)
