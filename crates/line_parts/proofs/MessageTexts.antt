-- The texts of messages, both ways.
use Rattle.std.proofs.Common.{◌≡◌, ℕ, ℤ, ◌++◌, ◌∷◌, [], List, Option, Some, None, false, Ok, Err, inl, inr, refl, sym, ap, ◌∙◌, subst, append_assoc}
use Rattle.std.proofs.lemmas.List.{append-nil}
use Rattle.std.proofs.lemmas.Bool.{eqb-true}
use Rattle.mj_schema.specs.KindTrees.{KindTree, StructKind}
use Rattle.mj_schema.specs.declared.schema.Schema.{Schema}
use Rattle.handle_table.specs.declared.thing.Thing.{Thing}
use Rattle.wire_model.specs.Trees.{Tree}
use Rattle.wire_model.specs.declared.target.MessageSide.{MessageSide}
use Rattle.wire_model.specs.declared.target.Target.{Target}
use Rattle.wire_encoder.specs.Prepared.{parameters_of, kind_for}
use Rattle.bind_model.specs.declared.asked.Outgoing.{Outgoing}
use Rattle.bind_model.specs.declared.endpoint.PendingId.{PendingId}
use Rattle.byte_rules.specs.Lang.{Lang, Read, Whole, as_value, closed}
use Rattle.byte_rules.specs.Judged.{Spells}
use Rattle.byte_rules.proofs.Tells.{Told}
use Rattle.byte_rules.proofs.Finds.{Free, Outcome}
use Rattle.byte_rules.proofs.Judging.{reads}
use Rattle.byte_rules.proofs.Parts.{Parts}
use Rattle.byte_rules.proofs.Shown.{Shown, shown_then, shown_closed}
use Rattle.value_text.specs.Brackets.{MAX_BRACKETS}
use Rattle.value_text.specs.Numbers.{is_digit}
use Rattle.value_text.specs.Rules.{value}
use Rattle.value_text.specs.Spelling.{spell}
use Rattle.value_text.proofs.KindLaws.{good_kind}
use Rattle.value_text.proofs.OneText.{one_text}
use Rattle.history_text.specs.History.{parameters_text, message_text, outgoing_text, tokens_text}
use Rattle.history_text.specs.Names.{method_text}
use Rattle.line_parts.specs.Signs.{blank}
use Rattle.line_parts.specs.Lists.{tokens}
use Rattle.line_parts.specs.Messages.{value_and_blank, parameters, no_target, message, outgoing_of, outgoing}
use Rattle.line_parts.specs.Messages as messages
use Rattle.line_parts.specs.Names.{names_of, messages_of, meaning, named}
use Rattle.line_parts.specs.Printable.{IsThing, IsPending, AreAll, IsMessage}
use Rattle.line_parts.specs.declared.names.Entry.{Entry}
use Rattle.line_parts.specs.declared.names.Message.{Message}
use Rattle.line_parts.proofs.BothWays.{HasTexts, Is, texts_as, texts_before, texts_value, texts_then, texts_link, texts_fine}
use Rattle.line_parts.proofs.IdLaws.{blank_no_digit}
use Rattle.line_parts.proofs.NameTexts.{message_named, means_by, texts_meaning}
use Rattle.line_parts.proofs.TokenTexts.{texts_tokens}

module _ (schema : Schema) (kind : KindTree) where
  -- the texts of the kind
  abbrev one : Lang Tree
  one = value schema MAX_BRACKETS kind

  -- the text of a value, and a blank
  abbrev text : Tree → List ℕ
  text v = spell schema kind v ++ blank ∷ []

  -- the value that was read, or another
  abbrev value_in : Tree → Read Tree → Tree
  value_in other (Ok x) = x.0
  value_in other (Err n) = other

  -- the bytes that are left
  abbrev rest_in : Read Tree → List ℕ
  rest_in (Ok x) = x.1
  rest_in (Err n) = []

  -- bytes that spell a value are its text wherever they stand
  shown_of : (v : Tree) (w : List ℕ) → Spells one v w → Shown one v w
  shown_of v w s = of (one.read w) (reads one (good_kind schema MAX_BRACKETS kind) w v s) ((good_kind schema MAX_BRACKETS kind).tells w)
    where
      of : (r : Read Tree) → r ≡ Ok (v, []) → Told one w r → Shown one v w
      of (Err n) e t = absurd (cc)
      of (Ok (y, rest)) e t = subst (λ (l : List ℕ). Shown one v l) (sym (t.1 ∙ ap (λ (l : List ℕ). t.0 ++ l) (ap rest_in e) ∙ append-nil t.0))
          (subst (λ (x : Tree). Shown one x t.0) (ap (value_in v) e) t.2)

  -- a blank behind the value, and what follows
  abbrev Next : (Tree → List ℕ → Type 0) → Tree → List ℕ → Type 0
  Next K v p = (closed blank v).followed Whole K p

  free : (K : Tree → List ℕ → Type 0) → Free is_digit (Next K)
  free K v t ts h = blank_no_digit t h.0

  from_value : Parts (Is (λ (v : Tree). Spells one v (spell schema kind v)) text) (value_and_blank schema kind)
  unfolding value_and_blank
  from_value K p h = of (one.read (p ++ [])) ((good_kind schema MAX_BRACKETS kind).finds Whole (Next K) (free K) p [] refl h)
      ((good_kind schema MAX_BRACKETS kind).tells (p ++ []))
    where
      done : (v : Tree) (f q : List ℕ) → p ≡ f ++ q → Next K v q → Shown one v f
          → (x : Tree) × (w : List ℕ) × (r : List ℕ) × Is (λ (v : Tree). Spells one v (spell schema kind v)) text x w × (p ≡ w ++ r) × K x r
      done v f [] e n s = absurd n
      done v f (b ∷ q) e n s =
          let spelled : Spells one v f = subst (λ (l : List ℕ). Spells one v l) (append-nil f) (s Whole (λ x rest. (rest ≡ []) × (x ≡ v)) [] (refl, refl)) in
          let is : f ≡ spell schema kind v = one_text schema MAX_BRACKETS kind v f spelled in
          let c : b ≡ blank = eqb-true b blank n.0 in (
            v,
            text v,
            q,
            (subst (λ (l : List ℕ). Spells one v l) is spelled, refl),
            e ∙ ap (λ (l : List ℕ). l ++ b ∷ q) is
                ∙ ap (λ (a : ℕ). spell schema kind v ++ a ∷ q) c
                ∙ sym (append_assoc (spell schema kind v) (blank ∷ []) q),
            n.1,
          )

      of : (r : Read Tree) → Outcome Whole (Next K) [] r → Told one (p ++ []) r
          → (x : Tree) × (w : List ℕ) × (q : List ℕ) × Is (λ (v : Tree). Spells one v (spell schema kind v)) text x w × (p ≡ w ++ q) × K x q
      of r (inr k) t = absurd k
      of (Err n) (inl k) t = absurd (let e = k.3 in cc)
      of (Ok (v, q)) (inl k) t =
          let same : v ≡ k.0 = ap (value_in v) k.3 in
          let left : q ≡ k.1 = ap rest_in k.3 ∙ append-nil k.1 in
          done v t.0 q (sym (append-nil p) ∙ t.1) (subst (λ (x : Tree). Next K x q) (sym same) (subst (λ (l : List ℕ). Next K k.0 l) (sym left) k.2)) t.2

  shows : (v : Tree) → Spells one v (spell schema kind v) → Shown (value_and_blank schema kind) v (text v)
  unfolding value_and_blank
  shows v s = shown_then one (λ v. closed blank v) v v (spell schema kind v) (blank ∷ []) (shown_of v (spell schema kind v) s) (shown_closed blank v)

  pub texts_value_and_blank : HasTexts (Is (λ (v : Tree). Spells one v (spell schema kind v)) text) (value_and_blank schema kind)
  texts_value_and_blank = record { from = from_value; to = λ v w h. subst (λ (l : List ℕ). Shown (value_and_blank schema kind) v l) (sym h.1) (shows v h.0) }

-- the parameters of a message
abbrev Parameters : Schema → Message → Target × Tree → Type 0
Parameters schema m p = (p.0 ≡ m.target)
    × Spells (value schema MAX_BRACKETS (StructKind m.parameters false)) p.1 (spell schema (StructKind m.parameters false) p.1)

-- the text of parameters between blanks
abbrev parameters_spelled : Schema → Message → Target × Tree → List ℕ
parameters_spelled schema m p = blank ∷ (spell schema (StructKind m.parameters false) p.1 ++ blank ∷ [])

texts_of : (schema : Schema) (m : Message) → HasTexts (Is (Parameters schema m) (parameters_spelled schema m)) (messages.parameters_of schema m)
texts_of schema m = texts_before blank (texts_value (λ v. (m.target, v)) (Parameters schema m)
    (λ p. spell schema (StructKind m.parameters false) p.1 ++ blank ∷ []) (λ v h. (refl, h)) (λ v h. refl)
    (λ p h. (p.1, h.1, ap (λ (t : Target). (t, p.1)) (sym h.0))) (texts_value_and_blank schema (StructKind m.parameters false)))

some_of : {A : Type 0} (x y : A) → Some x ≡ Some y → x ≡ y
some_of {A} x y e = ap of e
  where
    of : Option A → A
    of (Some z) = z
    of None = x

-- parameters of the message that was found
abbrev Found : Schema → Option Message → Target × Tree → List ℕ → Type 0
Found schema found p w = (m : Message) × (found ≡ Some m) × Is (Parameters schema m) (parameters_spelled schema m) p w

texts_found : (schema : Schema) (other : Target) (m : Message) (found : Option Message) → found ≡ Some m
    → HasTexts (Found schema found) (parameters schema other found)
texts_found schema other m found e = subst (λ (o : Option Message). HasTexts (Found schema o) (parameters schema other o)) (sym e)
    (texts_as (λ p w h. (m, refl, h)) (λ p w h. subst (λ (n : Message). Is (Parameters schema n) (parameters_spelled schema n) p w)
    (sym (some_of m h.0 h.1)) h.2)
    (texts_of schema m))

module _ (schema : Schema) (side : MessageSide) where
  -- the words of messages of the side
  abbrev entries : List (Entry Message)
  entries = messages_of (names_of schema) side

  -- the word of a message
  abbrev word_of : Message → List ℕ
  word_of m = method_text schema m.target.interface m.target.method

  -- a message that its word means
  abbrev Means : Option Message → List ℕ → Type 0
  Means found w = (m : Message) × (found ≡ Some m) × (meaning entries (word_of m) ≡ Some m) × (w ≡ word_of m)

  texts_word : HasTexts Means (named entries)
  texts_word = texts_meaning entries word_of (λ e i. (message_named schema side e i).text)

  -- the word of a message, and its parameters
  abbrev Linked : Target × Tree → List ℕ → Type 0
  Linked p w = (found : Option Message) × (v : List ℕ) × (u : List ℕ) × Means found v × Found schema found p u × (w ≡ v ++ u)

  -- the kind of the parameters is that of the method's struct
  pub kind_is : (m : Message) → meaning entries (word_of m) ≡ Some m → kind_for (parameters_of schema m.target) ≡ StructKind m.parameters false
  kind_is m e =
      let k = means_by entries (word_of m) m e in
      let own : parameters_of schema m.target ≡ Some m.parameters =
      subst (λ (m : Message). parameters_of schema m.target ≡ Some m.parameters) k.value (message_named schema side k.entry k.among).parameters in
      ap kind_for own

  -- the text of a message, and a blank
  abbrev whole : Target × Tree → List ℕ
  whole p = message_text schema p.0 p.1 ++ blank ∷ []

  text_is : (target : Target) (v : Tree) → method_text schema target.interface target.method ++ blank ∷ (parameters_text schema target v ++ blank ∷ [])
      ≡ whole (target, v)
  text_is target v = sym (append_assoc (method_text schema target.interface target.method) (blank ∷ parameters_text schema target v) (blank ∷ []))

  made : (m : Message) (v : Tree) (w : List ℕ) → meaning entries (word_of m) ≡ Some m
      → Spells (value schema MAX_BRACKETS (StructKind m.parameters false)) v (spell schema (StructKind m.parameters false) v)
      → w ≡ word_of m ++ parameters_spelled schema m (m.target, v) → Is (λ (p : Target × Tree). IsMessage schema side p.0 p.1) whole (m.target, v) w
  made m v w means spells e =
      let k : StructKind m.parameters false ≡ kind_for (parameters_of schema m.target) = sym (kind_is m means) in (
        record { number = m.parameters; means = means; spells = ap_spells k },
        e ∙ ap (λ (kind : KindTree). word_of m ++ blank ∷ (spell schema kind v ++ blank ∷ [])) k
            ∙ text_is m.target v,
      )
    where
      ap_spells : StructKind m.parameters false ≡ kind_for (parameters_of schema m.target)
          → Spells (value schema MAX_BRACKETS (StructKind m.parameters false)) v (parameters_text schema m.target v)
      ap_spells k = subst (λ (kind : KindTree). Spells (value schema MAX_BRACKETS (StructKind m.parameters false)) v (spell schema kind v)) k spells

  there : (p : Target × Tree) (w : List ℕ) → Linked p w → Is (λ (p : Target × Tree). IsMessage schema side p.0 p.1) whole p w
  there p w h =
      let m = h.3.0 in
      let n = h.4.0 in
      let same : n ≡ m = some_of n m (sym h.4.1 ∙ h.3.1) in
      let own : Is (Parameters schema m) (parameters_spelled schema m) p h.2 =
      subst (λ (m : Message). Is (Parameters schema m) (parameters_spelled schema m) p h.2) same h.4.2 in
      let e : w ≡ word_of m ++ parameters_spelled schema m p = h.5 ∙ ap (λ (l : List ℕ). l ++ h.2) h.3.3 ∙ ap (λ (l : List ℕ). word_of m ++ l) own.1 in
      subst (λ (t : Target). Is (λ (p : Target × Tree). IsMessage schema side p.0 p.1) whole (t, p.1) w) (sym own.0.0)
      (made m p.1 w h.3.2 own.0.1 e)

  back : (p : Target × Tree) (w : List ℕ) → Is (λ (p : Target × Tree). IsMessage schema side p.0 p.1) whole p w → Linked p w
  back p w h =
      let m : Message = record { target = p.0; parameters = h.0.number } in
      let k : kind_for (parameters_of schema p.0) ≡ StructKind h.0.number false = kind_is m h.0.means in (
        Some m,
        word_of m,
        parameters_spelled schema m p,
        (m, refl, h.0.means, refl),
        (
          m,
          refl,
          (
            (
              refl,
              subst (λ (kind : KindTree). Spells (value schema MAX_BRACKETS (StructKind h.0.number false)) p.1
                  (spell schema kind p.1)) k h.0.spells,
            ),
            refl,
          ),
        ),
        h.1 ∙ sym (text_is p.0 p.1)
            ∙ ap (λ (kind : KindTree). word_of m ++ blank ∷ (spell schema kind p.1 ++ blank ∷ [])) k,
      )

  pub texts_message : HasTexts (Is (λ (p : Target × Tree). IsMessage schema side p.0 p.1) (λ (p : Target × Tree). message_text schema p.0 p.1 ++ blank ∷ []))
      (message schema (names_of schema) side)
  unfolding message
  texts_message = texts_as there back (texts_link texts_word (λ found v h. texts_found schema (no_target side) h.0 found h.1))

  pub side_is : (target : Target) (v : Tree) → IsMessage schema side target v → target.side ≡ side
  side_is target v h =
      let m : Message = record { target = target; parameters = h.number } in
      let k = means_by entries (word_of m) m h.means in
      subst (λ (m : Message). m.target.side ≡ side) k.value (message_named schema side k.entry k.among).side

  -- with what goes with it, at a moment
  module _ (moment : Option ℤ) where
    -- what is sent for this message, with handles and endpoints of their widths
    abbrev With : Target × Tree → Outgoing → Type 0
    With m o = ((o.target, o.parameters) ≡ m) × AreAll IsThing o.handles × AreAll IsPending o.pendings × (o.moment ≡ moment)

    -- the text of what goes with it
    abbrev tokens_of : Outgoing → List ℕ
    tokens_of o = tokens_text o.handles o.pendings

    own : (m : Target × Tree) (o : Outgoing) → With m o → (l : List Thing × List PendingId) × (AreAll IsThing l.0 × AreAll IsPending l.1)
        × (outgoing_of moment m l ≡ o)
    own m o h = (
      (o.handles, o.pendings),
      (h.1, h.2),
      ap (λ (m : Target × Tree). outgoing_of moment m (o.handles, o.pendings)) (sym h.0)
          ∙ ap (λ (at : Option ℤ). outgoing_of at (o.target, o.parameters) (o.handles, o.pendings)) (sym h.3),
    )

    sent_with : (m : Target × Tree) → HasTexts (Is (With m) tokens_of) (as_value (outgoing_of moment m) tokens)
    sent_with m = texts_value (outgoing_of moment m) (With m) tokens_of (λ l h. (refl, h.0, h.1, refl)) (λ l h. refl) (own m) texts_tokens

    -- what can be sent at this moment
    abbrev pub Sends : Outgoing → Type 0
    Sends o = IsMessage schema side o.target o.parameters × AreAll IsThing o.handles × AreAll IsPending o.pendings × (o.moment ≡ moment)

    pub texts_outgoing : HasTexts (Is Sends (outgoing_text schema)) (outgoing schema (names_of schema) side moment)
    unfolding outgoing
    texts_outgoing = texts_fine (λ o h. (h.0, h.1.1, h.1.2, h.1.3)) (λ o h. (h.0, (refl, h.1, h.2, h.3)))
        (λ o h. append_assoc (message_text schema o.target o.parameters) (blank ∷ []) (tokens_text o.handles o.pendings))
        (texts_then (λ (o : Outgoing). (o.target, o.parameters)) (λ m o h. h.0) texts_message sent_with)
