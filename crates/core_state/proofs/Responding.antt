-- What one event more makes of the responders that are with callers.
use Rattle.std.proofs.Common.{◌≡◌, ◌≤◌, ℕ, ◌+◌, ◌^◌, ◌<◌, Bool, true, false, List, [], ◌∷◌, ◌++◌, length, refl, sym, ap, ◌∙◌, arith}
use Rattle.std.specs.Prelude.{if◌then◌else◌, not, ◌==◌, ◌&&◌, ◌||◌, Option, Some, None}
use Rattle.std.specs.List.{count_by, list_any}
use Rattle.std.proofs.lemmas.Bool.{ne_eqb}
use Rattle.std.proofs.lemmas.List.{append-nil, length-append, length-reverse}
use Rattle.std.proofs.lemmas.List.Sums.{sum_by-append, sum_by-cons, count_by-le-length}
use Rattle.mj_base.specs.declared.ids.EndId.{EndId}
use Rattle.bind_model.specs.declared.asked.Asked.{Asked}
use Rattle.bind_model.specs.declared.asked.Asked.TheVariants.{Answer, Close, Take}
use Rattle.bind_model.specs.declared.asked.Closing.TheVariants as closings
use Rattle.bind_model.specs.declared.endpoint.ResponderId.{ResponderId}
use Rattle.bind_model.specs.declared.event.Event.{Event}
use Rattle.bind_model.specs.declared.told.Got.{Got}
use Rattle.bind_model.specs.declared.told.Told.{Told}
use Rattle.bind_model.specs.declared.told.Told.TheVariants.{Closed, Sent, Taken}
use Rattle.bind_model.specs.Replies.{is_response, less_one, responders_after, responders_handed, responders_out, same_responder}
use Rattle.bind_model.specs.Wire.{Wire}
use Rattle.bind_model.proofs.ResponderCounts.{same-true}
use Rattle.core_state.specs.Agreement.{Holds, past_of, wire_in}
use Rattle.bind_model.specs.Responders.{CountsResponders, count_of}
use Rattle.core_state.specs.Dues.{responder_due, times_in}
use Rattle.bind_model.specs.declared.responder.ResponderName.{ResponderName}
use Rattle.core_state.specs.declared.state.State.{State}

-- how many of this name there are
abbrev pub times_out : ResponderId → List ResponderId → ℕ
times_out r rs = count_by (λ (q : ResponderId). same_responder q r) rs

times_cons : (r s : ResponderId) (rs : List ResponderId) → times_out r (s ∷ rs) ≡ (if same_responder s r then 1 else 0) + times_out r rs
times_cons r s rs = sum_by-cons (λ (q : ResponderId). if same_responder q r then 1 else 0) s rs

-- ## Whether one is out

one_out : (b : Bool) (n : ℕ) → (b || not (n == 0)) ≡ not ((if b then 1 else 0) + n == 0)
one_out true n = sym (ap not (ne_eqb (1 + n) 0 (λ e. omega (arith, e))))
one_out false n = ap (λ (m : ℕ). not (m == 0)) (omega arith)

pub out_counted : (rs : List ResponderId) (r : ResponderId) → list_any (λ (q : ResponderId). same_responder q r) rs ≡ not (times_out r rs == 0)
out_counted [] r = refl
out_counted (s ∷ rs) r =
    ap (λ b. same_responder s r || b) (out_counted rs r)
    ∙ (one_out (same_responder s r) (times_out r rs) ∙ ap (λ (n : ℕ). not (n == 0)) (sym (times_cons r s rs)))

-- ## One less

module _ (r : ResponderId) where
  less_by : (rs : List ResponderId) (s q : ResponderId) (b : Bool) → same_responder s r ≡ b → list_any (λ (p : ResponderId). same_responder p r) (s ∷ rs) ≡ true
      → (list_any (λ (p : ResponderId). same_responder p r) rs ≡ true → times_out q (less_one r rs) + (if same_responder r q then 1 else 0) ≡ times_out q rs)
      → times_out q (if b then rs else s ∷ less_one r rs) + (if same_responder r q then 1 else 0) ≡ times_out q (s ∷ rs)
  less_by rs s q true e h rest =
      let first = times_cons q r rs in
      rw (same-true s r e) (omega arith)
  less_by rs s q false e h rest =
      let there : list_any (λ (p : ResponderId). same_responder p r) rs ≡ true = (rw e at h) in
      let n = rest there in
      let now = times_cons q s (less_one r rs) in
      let before = times_cons q s rs in
      omega arith

  pub one_less : (rs : List ResponderId) (q : ResponderId) → list_any (λ (p : ResponderId). same_responder p r) rs ≡ true
      → times_out q (less_one r rs) + (if same_responder r q then 1 else 0) ≡ times_out q rs
  one_less [] q h = absurd (let f : false ≡ true = h in cc)
  one_less (s ∷ rs) q h = less_by rs s q (same_responder s r) refl h (one_less rs q)

-- an event that spends one
pub counts_spent : (wire : Wire) (event : Event) (past : List Event) (r : ResponderId) (old new : List (ResponderName × ℕ))
    → responders_handed wire event.told event.asked ≡ []
    → responders_after event.told event.asked (responders_out wire past) ≡ less_one r (responders_out wire past)
    → not (count_of old r == 0) ≡ true
    → ((q : ResponderId) → count_of new q + (if same_responder r q then 1 else 0) ≡ count_of old q)
    → CountsResponders wire past old → CountsResponders wire (event ∷ past) new
counts_spent wire event past r old new none after out less c q =
    let is : list_any (λ (p : ResponderId). same_responder p r) (responders_out wire past) ≡ true =
    out_counted (responders_out wire past) r ∙ (ap (λ (n : ℕ). not (n == 0)) (sym (c r)) ∙ out) in
    let now : responders_out wire (event ∷ past) ≡ less_one r (responders_out wire past) = rw (none, after)
    (append-nil (less_one r (responders_out wire past))) in
    let counted = one_less r (responders_out wire past) q is in
    let before = c q in
    let lessened = less q in
    let same : count_of new q ≡ times_out q (less_one r (responders_out wire past)) = omega arith in
    same ∙ sym (ap (times_out q) now)

-- ## One more

module _ (wire : Wire) (past : List Event) (y : EndId) (g : Got) where
  abbrev one : ResponderId
  one = record { end = y; id = g.id; request = g.request; interface = g.target.interface; method = g.target.method }

  -- what is handed out is what is due
  pub handed_is : (elim (responder_due wire y g.id g.target g.request) [ Some r ↦ r ∷ [] | None ↦ [] ]) ≡ responders_handed wire (Taken g) (Take y)
  handed_is = go (not (is_response g.target.side) && wire.responds g.target.interface g.target.method)
    where
      go : (b : Bool) → ◌≡◌ {A = List ResponderId} (elim (if◌then◌else◌ {A = Option ResponderId} b (Some one) None) [ Some r ↦ r ∷ [] | None ↦ [] ])
          (if b then one ∷ [] else [])
      go true = refl
      go false = refl

  times_is : (o : Option ResponderId) (r : ResponderId) → times_out r (elim o [ Some q ↦ q ∷ [] | None ↦ [] ]) ≡ times_in o r
  times_is None r = refl
  times_is (Some q) r = times_cons r q [] ∙ omega arith

pub counts_made : (wire : Wire) (event : Event) (past : List Event) (y : EndId) (g : Got) (old new : List (ResponderName × ℕ)) → event.asked ≡ Take y
    → event.told ≡ Taken g → ((r : ResponderId) → count_of new r ≡ count_of old r + times_in (responder_due wire y g.id g.target g.request) r)
    → CountsResponders wire past old → CountsResponders wire (event ∷ past) new
counts_made wire event past y g old new asked told more c r =
    let before = c r in
    let now : responders_out wire (event ∷ past) ≡ responders_out wire past ++ responders_handed wire (Taken g) (Take y) = rw (told, asked) refl in
    let sum = sum_by-append (λ (q : ResponderId). if same_responder q r then 1 else 0) (responders_out wire past) (responders_handed wire (Taken g) (Take y)) in
    let one : times_out r (responders_handed wire (Taken g) (Take y)) ≡ times_in (responder_due wire y g.id g.target g.request) r =
    ap (times_out r) (sym (handed_is wire past y g)) ∙ times_is wire past y g (responder_due wire y g.id g.target g.request) r in
    more r ∙ (ap (λ (n : ℕ). n + times_in (responder_due wire y g.id g.target g.request) r) before
    ∙ (ap (λ (n : ℕ). times_out r (responders_out wire past) + n) (sym one) ∙ (sym sum ∙ sym (ap (times_out r) now))))

-- ## There are no more than events

less_few : (r : ResponderId) (rs : List ResponderId) → length (less_one r rs) ≤ length rs
less_few r [] = omega arith
less_few r (s ∷ rs) = go (same_responder s r) (less_few r rs)
  where
    go : (b : Bool) → length (less_one r rs) ≤ length rs → length (if◌then◌else◌ {A = List ResponderId} b rs (s ∷ less_one r rs)) ≤ length (s ∷ rs)
    go true few = omega arith
    go false few = omega arith

after_few : (told : Told) (asked : Asked) (rs : List ResponderId) → length (responders_after told asked rs) ≤ length rs
after_few (Sent request bytes) (Answer r o) rs = less_few r rs
after_few (Closed gone) (Close (closings.Responder r)) rs = less_few r rs
after_few told asked rs = omega arith

handed_few : (wire : Wire) (told : Told) (asked : Asked) → length (responders_handed wire told asked) ≤ 1
handed_few wire (Taken g) (Take y) = go (not (is_response g.target.side) && wire.responds g.target.interface g.target.method)
  where
    go : (b : Bool) → length {A = ResponderId}
        (if b then record { end = y; id = g.id; request = g.request; interface = g.target.interface; method = g.target.method } ∷ [] else []) ≤ 1
    go true = omega arith
    go false = omega arith
handed_few wire told asked = omega arith

out_few : (wire : Wire) (past : List Event) → length (responders_out wire past) ≤ length past
out_few wire [] = omega arith
out_few wire (event ∷ past) =
    let a = after_few event.told event.asked (responders_out wire past) in
    let h = handed_few wire event.told event.asked in
    omega (
      arith,
      out_few wire past,
      a,
      h,
      length-append (responders_after event.told event.asked (responders_out wire past))
          (responders_handed wire event.told event.asked),
    )

-- so a count has room for one more
pub count_few : (s : State) → Holds s → (r : ResponderId) → count_of s.rights.responders r + 1 < 2 ^ 64
count_few s h r =
    let c = h.responders r in
    let few = h.few in
    omega (
      arith,
      c,
      few,
      out_few (wire_in s) (past_of s),
      count_by-le-length (λ (q : ResponderId). same_responder q r) (responders_out (wire_in s) (past_of s)),
      length-reverse s.log.events,
    )
