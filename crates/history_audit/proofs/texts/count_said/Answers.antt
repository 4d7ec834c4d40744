use Rattle.std.proofs.Common.{◌≡◌, ◌∙◌, ◌++◌, ℕ, List, ap, length, refl, subst, sym, arith}
use Rattle.std.proofs.lemmas.Option.{slice_get_read}
use Rattle.history_text.specs.History.{event_line}
use Rattle.history_audit.specs.steps.Said.{SaysFirst}
use Rattle.history_audit.proofs.Counting.{said_all, said_more, said_no_more, said_none}
use Rattle.history_audit.proofs.texts.count_said.Goals as goal

pub loop-event-init : goal.loop-event-init
loop-event-init c = record { number = refl; within = omega arith; so = said_none c.args.schema.now c.args.events.now c.args.bytes.now }

pub loop-event-preserved : goal.loop-event-preserved
loop-event-preserved c =
    let schema = c.args.schema.now in
    let events = c.args.events.now in
    let k = c.loop-event.event-index in
    let event = c.event-item.result in
    let i = c.loop-event.invariant in
    let here = slice_get_read events (length events) k event refl c.loop-event-test.true c.event-item.is in
    let mine = c.as_slice.result.now in
    let line : mine ≡ event_line schema k event =
    c.as_slice.ensures.value
    ∙ (c.in_ok-push_event.ensures
    ∙ (ap (λ (l : List ℕ). l ++ event_line schema c.loop-event.number event) c.new-line.ensures.items
    ∙ ap (λ (n : ℕ). event_line schema n event) i.number)) in
    let long : c.len-at.result ≡ length mine = c.len-at.ensures ∙ sym c.as_slice.ensures.len in
    let so =
    said_more schema events c.args.bytes.now k c.loop-event.at i.so event here mine line c.starts_with.result c.starts_with.ensures.value
    c.len-at.result long c.if-not-starts_with.false in
    record { number = omega (arith, i.number); within = so.within; so = so }

pub overflow_add-at : goal.overflow_add-at
overflow_add-at c =
    let schema = c.args.schema.now in
    let events = c.args.events.now in
    let k = c.loop-event.event-index in
    let event = c.event-item.result in
    let i = c.loop-event.invariant in
    let here = slice_get_read events (length events) k event refl c.loop-event-test.true c.event-item.is in
    let mine = c.as_slice.result.now in
    let line : mine ≡ event_line schema k event =
    c.as_slice.ensures.value
    ∙ (c.in_ok-push_event.ensures
    ∙ (ap (λ (l : List ℕ). l ++ event_line schema c.loop-event.number event) c.new-line.ensures.items
    ∙ ap (λ (n : ℕ). event_line schema n event) i.number)) in
    let long : c.len-at.result ≡ length mine = c.len-at.ensures ∙ sym c.as_slice.ensures.len in
    let so =
    said_more schema events c.args.bytes.now k c.loop-event.at i.so event here mine line c.starts_with.result c.starts_with.ensures.value
    c.len-at.result long c.if-not-starts_with.false in
    record { fits = omega (arith, so.within) }

pub returns-then-not-starts_with : goal.returns-then-not-starts_with
returns-then-not-starts_with c =
    let schema = c.args.schema.now in
    let events = c.args.events.now in
    let k = c.loop-event.event-index in
    let event = c.event-item.result in
    let i = c.loop-event.invariant in
    let here = slice_get_read events (length events) k event refl c.loop-event-test.true c.event-item.is in
    let mine = c.as_slice.result.now in
    let line : mine ≡ event_line schema k event =
    c.as_slice.ensures.value
    ∙ (c.in_ok-push_event.ensures
    ∙ (ap (λ (l : List ℕ). l ++ event_line schema c.loop-event.number event) c.new-line.ensures.items
    ∙ ap (λ (n : ℕ). event_line schema n event) i.number)) in
    subst (λ (n : ℕ). SaysFirst schema events c.args.bytes.now n) (sym i.number)
    (said_no_more schema events c.args.bytes.now k c.loop-event.at i.so event here mine line c.starts_with.result
    c.starts_with.ensures.value c.if-not-starts_with.true)

pub returns : goal.returns
returns c =
    let i = c.loop-event.invariant in
    subst (λ (n : ℕ). SaysFirst c.args.schema.now c.args.events.now c.args.bytes.now n) (sym i.number)
    (said_all c.args.schema.now c.args.events.now c.args.bytes.now c.loop-event.event-index c.loop-event.at i.so c.loop-event-test.false
    (let upto = c.loop-event.auto.event-index-end in omega (arith, upto)))
