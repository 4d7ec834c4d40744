use Rattle.std.proofs.Common.{◌≡◌, Bool, List, ap, sym, ◌∙◌}
use Rattle.handle_table.specs.declared.thing.Thing.{Thing}
use Rattle.core_sending.specs.steps.Raw.{all_out_with, raw_way}
use Rattle.core_sending.proofs.RawWays.{raw_refused}
use Rattle.core_sending.proofs.raw.write_from.Goals as goal

pub refuse-requires-clause-why : goal.refuse-requires-clause-why
refuse-requires-clause-why c =
    let s = c.args.state.now in
    let r = c.args.raw in
    let all : c.as_slice.result.now ≡ r.handles = c.as_slice.ensures ∙ c.requires.same in
    let others : c.as_slice-2.result.now ≡ r.handles = c.as_slice-2.ensures ∙ c.requires.same in
    let own : c.in-Ok.own ≡ all_out_with s.pipes r.handle r.handles =
    c.in-Ok.ensures
    ∙ (ap (λ (z : Thing). all_out_with s.pipes z c.as_slice.result.now) c.thing.ensures
    ∙ ap (λ (hs : List Thing). all_out_with s.pipes r.handle hs) all) in
    rw c.into_command-in-Ok-copy.ensures
    (raw_refused s c.args.seq r c.requires.can c.in-Err.why
    (sym (c.in-Err.ensures
    ∙ (ap (λ (hs : List Thing). raw_way r.handle r.bytes hs c.in-Ok.own s.pipes s.tables.flows) others
    ∙ ap (λ (b : Bool). raw_way r.handle r.bytes r.handles b s.pipes s.tables.flows) own))))

pub write-requires-clause-free : goal.write-requires-clause-free
write-requires-clause-free c =
    let s = c.args.state.now in
    let r = c.args.raw in
    let all : c.as_slice.result.now ≡ r.handles = c.as_slice.ensures ∙ c.requires.same in
    let others : c.as_slice-2.result.now ≡ r.handles = c.as_slice-2.ensures ∙ c.requires.same in
    let own : c.in-Ok.own ≡ all_out_with s.pipes r.handle r.handles =
    c.in-Ok.ensures
    ∙ (ap (λ (z : Thing). all_out_with s.pipes z c.as_slice.result.now) c.thing.ensures
    ∙ ap (λ (hs : List Thing). all_out_with s.pipes r.handle hs) all) in
    sym (c.in-Ok-way.ensures
    ∙ (ap (λ (hs : List Thing). raw_way r.handle r.bytes hs c.in-Ok.own s.pipes s.tables.flows) others
    ∙ ap (λ (b : Bool). raw_way r.handle r.bytes r.handles b s.pipes s.tables.flows) own))
