-- A load has just one history: what is asked is fixed by what was told before, and that by what was asked.
use Rattle.std.proofs.Common.{◌≡◌, ◌≤◌, ◌<◌, ◌++◌, ℕ, zero, suc, List, [], ◌∷◌, length, map, inl, inr, refl, sym, ap, ◌∙◌, subst, arith}
use Rattle.std.specs.Prelude.{Option, Some, None, Result, Ok, Err, reverse}
use Rattle.std.proofs.lemmas.List.{append-nil, append_assoc, map-append, reverse-append, reverse-reverse}
use Rattle.mj_base.specs.Bytes.{rounded8}
use Rattle.mj_base.specs.declared.ids.SeqId.{SeqId}
use Rattle.mj_schema.specs.declared.schema.Schema.{Schema}
use Rattle.wire_model.specs.Tight.{MAX_PAYLOAD_BYTES}
use Rattle.wire_model.specs.Trees.{Tree}
use Rattle.wire_model.specs.declared.target.Target.{Target}
use Rattle.wire_encoder.specs.FirstFailed.{Met, Refusal, refusal}
use Rattle.wire_encoder.specs.Prepared.{IsPrepareRefusal, payload_for, verdict}
use Rattle.wire_encoder.specs.declared.refusal.Flaw.TheVariants as flaws
use Rattle.wire_encoder.specs.declared.refusal.PrepareError.{PrepareError}
use Rattle.wire_encoder.specs.declared.refusal.PrepareError.TheVariants.{Misfit, TooDeep, TooManyHandles, TooLong, Memory}
use Rattle.bind_model.specs.Replies.{answer, legal, responders_handed}
use Rattle.bind_model.specs.Wire.{Wire}
use Rattle.bind_model.specs.WireOf.{wire_of}
use Rattle.bind_model.specs.declared.asked.Asked.{Asked}
use Rattle.bind_model.specs.declared.asked.Asked.TheVariants as asks
use Rattle.bind_model.specs.declared.endpoint.ResponderId.{ResponderId}
use Rattle.bind_model.specs.declared.event.Event.{Event}
use Rattle.bind_model.specs.declared.told.Told.{Told}
use Rattle.script_run.specs.OfScript.{Next}
use Rattle.script_run.specs.Order.{drawn}
use Rattle.load_run.specs.Commands.{AreOf, IsAnswered, IsCalled, IsLoad, IsLoaded, SEQUENCES, alone, asked_in, caller, end_of, taker}
use Rattle.load_run.specs.Messages.{Goes, IsRefusal, Stays, answer_tree, message_of, request_target, request_tree, targets_in}
use Rattle.load_run.specs.declared.messages.Message.{Message}

-- ## Going out and staying

rounded_within : (n : ℕ) → n ≤ MAX_PAYLOAD_BYTES → MAX_PAYLOAD_BYTES < rounded8 n → ⊥
rounded_within n short long = omega (arith, short, long)

-- no value does both
never_both : (schema : Schema) (found : Option Target) (value : Tree) (target : Target) → Goes schema found value target → Stays schema found value → ⊥
never_both schema None value target goes stays = let e : ◌≡◌ {A = Option Target} None (Some target) = goes.there in absurd cc
never_both schema (Some t) value target goes stays = by stays.0 stays.1 stays.2
  where
    same : t ≡ target
    same = let e : ◌≡◌ {A = Option Target} (Some t) (Some target) = goes.there in cc

    passes : verdict schema t value ≡ Ok goes.met
    passes = subst (λ (u : Target). verdict schema u value ≡ Ok goes.met) (sym same) goes.passes

    short : length (payload_for schema t value) ≤ MAX_PAYLOAD_BYTES
    short = subst (λ (u : Target). length (payload_for schema u value) ≤ MAX_PAYLOAD_BYTES) (sym same) goes.short

    failed : (wrong : Refusal) → verdict schema t value ≡ Err wrong → ⊥
    failed wrong e = let both : ◌≡◌ {A = Result Met Refusal} (Ok goes.met) (Err wrong) = sym passes ∙ e in absurd cc

    by : (why : PrepareError) → IsRefusal why → IsPrepareRefusal schema t value why → ⊥
    by (Misfit path) is e = failed (refusal flaws.Misfit path) e
    by (TooDeep path) is e = failed (refusal flaws.TooDeep path) e
    by (TooManyHandles path) is e = failed (refusal flaws.TooManyHandles path) e
    by TooLong is e = rounded_within (length (payload_for schema t value)) short e.1
    by Memory is e = is

-- what goes out is for the one target that there is
one_target : (schema : Schema) (found : Option Target) (value : Tree) (t u : Target) → Goes schema found value t → Goes schema found value u → t ≡ u
one_target schema found value t u one other =
    let both : ◌≡◌ {A = Option Target} (Some t) (Some u) = sym one.there ∙ other.there in
    cc

-- ## Events

map_reverse : {A B : Type 0} (f : A → B) (xs : List A) → map f (reverse xs) ≡ reverse (map f xs)
map_reverse f [] = refl
map_reverse f (x ∷ xs) =
    ap (map f) (reverse-append (x ∷ []) xs)
    ∙ (map-append f (reverse xs) (x ∷ [])
    ∙ (ap (λ ys. ys ++ f x ∷ []) (map_reverse f xs) ∙ sym (reverse-append (f x ∷ []) (map f xs))))

module _ (wire : Wire) where
  -- what was told behind these events is fixed by what was asked
  same_past : (base xs ys : List Event) → legal wire SEQUENCES (xs ++ base) → legal wire SEQUENCES (ys ++ base) → map asked_in xs ≡ map asked_in ys → xs ≡ ys
  same_past base [] [] h g e = refl
  same_past base [] (y ∷ ys) h g e = absurd cc
  same_past base (x ∷ xs) [] h g e = absurd cc
  same_past base (x ∷ xs) (y ∷ ys) h g e =
      let rest : map asked_in xs ≡ map asked_in ys = cc in
      let head : asked_in x ≡ asked_in y = cc in
      let before : xs ≡ ys = same_past base xs ys h.2 g.2 rest in
      let seq : x.seq ≡ y.seq = ap (λ (n : Next). n.0) head in
      let asked : x.asked ≡ y.asked = ap (λ (n : Next). n.1) head in
      let told : x.told ≡ y.told =
      h.1
      ∙ (ap (λ (es : List Event). answer wire SEQUENCES (es ++ base) x.seq x.asked) before
      ∙ (ap (λ (s : SeqId). answer wire SEQUENCES (ys ++ base) s x.asked) seq
      ∙ (ap (λ (a : Asked). answer wire SEQUENCES (ys ++ base) y.seq a) asked ∙ sym g.1))) in
      let same : x ≡ y =
      ap {A = SeqId} {B = Event} (λ s. record { seq = s; asked = x.asked; told = x.told }) seq
      ∙ (ap {A = Asked} {B = Event} (λ a. record { seq = y.seq; asked = a; told = x.told }) asked
      ∙ ap {A = Told} {B = Event} (λ t. record { seq = y.seq; asked = y.asked; told = t }) told) in
      ap (λ (event : Event). event ∷ xs) same ∙ ap (λ (es : List Event). y ∷ es) before

  -- events in order, behind these
  abbrev LegalOn : List Event → List Event → Type 0
  LegalOn base own = legal wire SEQUENCES (reverse own ++ base)

  same_own : (base xs ys : List Event) → LegalOn base xs → LegalOn base ys → map asked_in xs ≡ map asked_in ys → xs ≡ ys
  same_own base xs ys h g e =
      let turned : map asked_in (reverse xs) ≡ map asked_in (reverse ys) =
      map_reverse asked_in xs ∙ (ap reverse e ∙ sym (map_reverse asked_in ys)) in
      let back : reverse xs ≡ reverse ys = same_past base (reverse xs) (reverse ys) h g turned in
      sym (reverse-reverse xs) ∙ (ap reverse back ∙ reverse-reverse ys)

  legal_behind : (more past : List Event) → legal wire SEQUENCES (more ++ past) → legal wire SEQUENCES past
  legal_behind [] past h = h
  legal_behind (event ∷ more) past h = legal_behind more past h.2

  -- the first of them, and the others behind these
  parts_of : (base xs ys : List Event) → LegalOn base (xs ++ ys) → LegalOn (reverse xs ++ base) ys
  parts_of base xs ys h =
      subst (λ (es : List Event). legal wire SEQUENCES es)
      (ap (λ (es : List Event). es ++ base) (reverse-append xs ys) ∙ append_assoc (reverse ys) (reverse xs) base) h

  first_of : (base xs ys : List Event) → LegalOn base (xs ++ ys) → LegalOn base xs
  first_of base xs ys h = legal_behind (reverse ys) (reverse xs ++ base) (parts_of base xs ys h)

-- ## A message

module _ (schema : Schema) (m : Message) where
  abbrev wire : Wire
  wire = wire_of schema

  -- what was asked with a right to answer
  abbrev answers : ResponderId → Target → List Next
  answers r target =
      (taker m.is_second, asks.Answer r (alone target (answer_tree m.number)))
      ∷ (caller m.is_second, asks.Take (end_of (caller m.is_second))) ∷ []

  one_answer : (base : List Event) (rs : List ResponderId) (xs ys : List Event) → LegalOn wire base xs → LegalOn wire base ys
      → IsAnswered schema m rs xs → IsAnswered schema m rs ys → xs ≡ ys
  one_answer base [] xs ys h g one other = one ∙ sym other
  one_answer base (r ∷ rs) xs ys h g (inl one) (inl other) =
      let same = one_target schema (targets_in schema).answer (answer_tree m.number) one.0 other.0 one.1 other.1 in
      same_own wire base xs ys h g (one.2 ∙ (ap (answers r) same ∙ sym other.2))
  one_answer base (r ∷ rs) xs ys h g (inl one) (inr other) =
      absurd (never_both schema (targets_in schema).answer (answer_tree m.number) one.0 one.1 other.0)
  one_answer base (r ∷ rs) xs ys h g (inr one) (inl other) =
      absurd (never_both schema (targets_in schema).answer (answer_tree m.number) other.0 other.1 one.0)
  one_answer base (r ∷ rs) xs ys h g (inr one) (inr other) = one.1 ∙ sym other.1

  -- the call and the take
  abbrev called : Target → Told → Event
  called target sent = record {
    seq = caller m.is_second;
    asked = asks.Call (end_of (caller m.is_second)) 0 (alone target (request_tree m));
    told = sent;
  }

  abbrev took : Told → Event
  took got = record { seq = taker m.is_second; asked = asks.Take (end_of (taker m.is_second)); told = got }

  abbrev first_two : Target → Told → Told → List Event
  first_two target sent got = called target sent ∷ took got ∷ []

  -- what they ask
  abbrev both_ask : Target → List Next
  both_ask target =
      (caller m.is_second, asks.Call (end_of (caller m.is_second)) 0 (alone target (request_tree m)))
      ∷ (taker m.is_second, asks.Take (end_of (taker m.is_second))) ∷ []

  got_of : (c d : Event) (a b : Told) → c ∷ took a ∷ [] ≡ d ∷ took b ∷ [] → a ≡ b
  got_of c d a b e = let both : took a ≡ took b = cc in ap (λ (event : Event). event.told) both

  one_call : (base : List Event) (t u : Target) (xs ys : List Event) → t ≡ u → LegalOn wire base xs → LegalOn wire base ys
      → IsCalled schema m t xs → IsCalled schema m u ys → xs ≡ ys
  one_call base t u xs ys same h g one other =
      one.whole ∙ (ap (λ (es : List Event). es ++ one.rest) first ∙ (ap (λ (es : List Event). first_two u other.sent other.got ++ es) rest ∙ sym other.whole))
    where
      h' : LegalOn wire base (first_two t one.sent one.got ++ one.rest)
      h' = subst (λ (es : List Event). LegalOn wire base es) one.whole h

      g' : LegalOn wire base (first_two u other.sent other.got ++ other.rest)
      g' = subst (λ (es : List Event). LegalOn wire base es) other.whole g

      first : first_two t one.sent one.got ≡ first_two u other.sent other.got
      first =
          same_own wire base (first_two t one.sent one.got) (first_two u other.sent other.got)
          (first_of wire base (first_two t one.sent one.got) one.rest h') (first_of wire base (first_two u other.sent other.got) other.rest g')
          (ap both_ask same)

      got : one.got ≡ other.got
      got = got_of (called t one.sent) (called u other.sent) one.got other.got first

      rest : one.rest ≡ other.rest
      rest =
          one_answer (reverse (first_two u other.sent other.got) ++ base) (responders_handed wire other.got (asks.Take (end_of (taker m.is_second))))
          one.rest other.rest
          (subst (λ (es : List Event). LegalOn wire (reverse es ++ base) one.rest) first (parts_of wire base (first_two t one.sent one.got) one.rest h'))
          (parts_of wire base (first_two u other.sent other.got) other.rest g')
          (subst (λ (told : Told). IsAnswered schema m (responders_handed wire told (asks.Take (end_of (taker m.is_second)))) one.rest) got one.answered)
          other.answered

  one_message : (base xs ys : List Event) → LegalOn wire base xs → LegalOn wire base ys → AreOf schema m xs → AreOf schema m ys → xs ≡ ys
  one_message base xs ys h g (inl one) (inl other) =
      one_call base one.0 other.0 xs ys
      (one_target schema (request_target (targets_in schema) m) (request_tree m) one.0 other.0 one.1 other.1) h g one.2 other.2
  one_message base xs ys h g (inl one) (inr other) =
      absurd (never_both schema (request_target (targets_in schema) m) (request_tree m) one.0 one.1 other.0)
  one_message base xs ys h g (inr one) (inl other) =
      absurd (never_both schema (request_target (targets_in schema) m) (request_tree m) other.0 other.1 one.0)
  one_message base xs ys h g (inr one) (inr other) = one.1 ∙ sym other.1

-- ## All of them

-- behind nothing
on_nothing : (wire : Wire) (xs : List Event) → legal wire SEQUENCES (reverse xs) → LegalOn wire [] xs
on_nothing wire xs h = subst (λ (es : List Event). legal wire SEQUENCES es) (sym (append-nil (reverse xs))) h

-- with one message more
one_more : (schema : Schema) (seed n : ℕ) (xs ys before own before' own' : List Event) → xs ≡ before ++ own → ys ≡ before' ++ own'
    → LegalOn (wire_of schema) [] (before ++ own) → LegalOn (wire_of schema) [] (before' ++ own') → before ≡ before'
    → AreOf schema (message_of n (drawn seed n)) own → AreOf schema (message_of n (drawn seed n)) own' → xs ≡ ys
one_more schema seed n xs ys before own before' own' is is' h g same one other =
    let last : own ≡ own' =
    one_message schema (message_of n (drawn seed n)) (reverse before' ++ []) own own'
    (subst (λ (es : List Event). LegalOn (wire_of schema) (reverse es ++ []) own) same (parts_of (wire_of schema) [] before own h))
    (parts_of (wire_of schema) [] before' own' g) one other in
    is ∙ (ap (λ (es : List Event). es ++ own) same ∙ (ap (λ (es : List Event). before' ++ es) last ∙ sym is'))

one_loaded : (schema : Schema) (seed n : ℕ) (xs ys : List Event) → LegalOn (wire_of schema) [] xs → LegalOn (wire_of schema) [] ys
    → IsLoaded schema seed n xs → IsLoaded schema seed n ys → xs ≡ ys
one_loaded schema seed zero xs ys h g one other = same_own (wire_of schema) [] xs ys h g (one ∙ sym other)
one_loaded schema seed (suc n) xs ys h g one other =
    let front = subst (λ (es : List Event). LegalOn (wire_of schema) [] es) one.2 h in
    let front' = subst (λ (es : List Event). LegalOn (wire_of schema) [] es) other.2 g in
    one_more schema seed n xs ys one.0 one.1 other.0 other.1 one.2 other.2 front front'
    (one_loaded schema seed n one.0 other.0 (first_of (wire_of schema) [] one.0 one.1 front) (first_of (wire_of schema) [] other.0 other.1 front')
    one.3 other.3)
    one.4 other.4

pub one_load : (schema : Schema) (seed messages : ℕ) (one other : List Event) → IsLoad schema seed messages one → IsLoad schema seed messages other
    → one ≡ other
one_load schema seed messages one other is too =
    one_loaded schema seed messages one other (on_nothing (wire_of schema) one is.legal) (on_nothing (wire_of schema) other too.legal)
    is.events too.events
