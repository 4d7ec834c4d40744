-- What a line asks whose names are known, or that it has no value.
use Rattle.std.proofs.Common.{◌≡◌, ◌<◌, ◌^◌, ℕ, true, List, [], ◌∷◌, ◌++◌, length, map, Option, Some, None, refl, sym, ap, ◌∙◌, subst, arith, inl, inr}
use Rattle.std.specs.Prelude.{ℤ, ◌⊎◌, codes, decimal, is_some, option_and_then}
use Rattle.std.specs.Fmt.{signed_decimal}
use Rattle.std.specs.List.{list_all}
use Rattle.std.specs.Option.{option_map}
use Rattle.mj_schema.specs.Lookups.{interface_named}
use Rattle.mj_schema.specs.declared.schema.Schema.{Schema}
use Rattle.wire_model.specs.declared.target.MessageSide.{MessageSide}
use Rattle.wire_model.specs.declared.target.MessageSide.TheVariants.{Request, Response}
use Rattle.wire_model.specs.declared.target.Target.{Target}
use Rattle.wire_encoder.specs.Prepared.{parameters_of}
use Rattle.wire_encoder.specs.declared.prepared.Prepared.{Prepared}
use Rattle.sealed_laws.proofs.Sealed.{Passed}
use Rattle.script_words.specs.Letters.{endpoint_word, own_word}
use Rattle.call_script.specs.declared.script.Command.{Command}
use Rattle.call_script.specs.declared.script.Command.TheVariants as commands
use Rattle.script_forms.specs.Forms.{Pipe, Mint, Bind, Associate, Attach, Call, Take, Answer, Raw, CloseToken, CloseEndpoint, Notify, Pause}
use Rattle.script_forms.specs.Forms.{Data, Flow, Moved, Put, Get, BeginPut, EndPut, BeginGet, EndGet, IsMoved}
use Rattle.bind_model.specs.declared.flow.Flow.{Flow as FlowType}
use Rattle.bind_model.specs.declared.flow.Flow.TheVariants as flows
use Rattle.script_forms.specs.Forms.{Form, Join, Auto, Of, IsForm, form_words, needs}
use Rattle.call_script.specs.Script.{names_set, line_number, seq_of, finds, knows, is_set, meant, Asks, IsFlowOf, HasNoValue, IsNoBareValue, IsNoValue, IsPart, IsValueOf, Part, OfLine, OfReply}
use Rattle.call_script.specs.Targets.{message_named, target_named}
use Rattle.call_script.proofs.OneValue.{one_found}
use Rattle.call_script.proofs.Sending.{letters}
use Rattle.script_laws.proofs.Named.{and_parts, some_of, before, all_before, next, second, all_next}
use Rattle.script_laws.proofs.Prepared.{sent, bare}

-- what a word names has a struct for its parameters
named_there : (schema : Schema) (side : MessageSide) (word : List ℕ) (target : Target) (number : ℕ)
    → message_named schema side word ≡ Some (target, number) → parameters_of schema target ≡ Some number
named_there schema side word target number found = go (target_named schema side word) found
  where
    inner : (t : Target) (o : Option ℕ) → parameters_of schema t ≡ o
        → option_map {U = Target × ℕ} (λ (number : ℕ). (t, number)) o ≡ Some (target, number) → parameters_of schema target ≡ Some number
    inner t None own e = absurd cc
    inner t (Some n) own e =
        let same = one_found t target n number e in ap (parameters_of schema) (sym same.0) ∙ (own ∙ ap (λ (n : ℕ). Some n) same.1)

    go : (o : Option Target)
        → option_and_then (λ (t : Target). option_map {U = Target × ℕ} (λ (number : ℕ). (t, number)) (parameters_of schema t)) o ≡ Some (target, number)
        → parameters_of schema target ≡ Some number
    go None e = absurd cc
    go (Some t) e = inner t (parameters_of schema t) refl e

-- what is moved has its bytes
flow_for : (f : Moved) → IsMoved f → (g : FlowType) × IsFlowOf f g
flow_for (Put word all) h = (flows.Put h.0 all, (h.1, refl))
flow_for (Get n all) h = (flows.Get n all, (refl, refl))
flow_for BeginPut h = (flows.BeginPut, tt)
flow_for (EndPut word) h = (flows.EndPut h.0, h.1)
flow_for BeginGet h = (flows.BeginGet, tt)
flow_for (EndGet n) h = (flows.EndGet n, refl)

module _ (passed : Passed) (schema : Schema) (past : List Form) where
  -- what a line comes to
  abbrev pub Comes : Form → Type 0
  Comes form = ((part : Part) × IsPart schema past form part) ⊎ HasNoValue schema form

  -- a command that the form asks
  abbrev AsksIn : Form → Type 0
  AsksIn form = (command : Command) × Asks schema (names_set past) (names_set (form ∷ past)) form command

  -- it makes a line
  line_of : (form : Form) → AsksIn form → Comes form
  line_of form asks =
      inl (
        OfLine (record { number = line_number past; seq = record { 0 = seq_of form }; command = asks.0 }),
        record {
          number = refl;
          seq = refl;
          command = asks.1;
        },
      )

  -- a value that is none
  no_value : (side : MessageSide) (method word : List ℕ) (target : Target) (number : ℕ) → message_named schema side method ≡ Some (target, number)
      → IsNoValue schema target number word
      → (other : Target) (n : ℕ) → message_named schema side method ≡ Some (other, n) → IsNoValue schema other n word
  no_value side method word target number found none other n also =
      let same = one_found target other number n (sym found ∙ also) in
      subst (λ (m : ℕ). IsNoValue schema other m word) same.1 (subst (λ (t : Target). IsNoValue schema t number word) same.0 none)

  -- nor one that carries nothing
  no_bare : (side : MessageSide) (method word : List ℕ) (target : Target) (number : ℕ) → message_named schema side method ≡ Some (target, number)
      → IsNoBareValue schema target number word
      → (other : Target) (n : ℕ) → message_named schema side method ≡ Some (other, n) → IsNoBareValue schema other n word
  no_bare side method word target number found none other n also =
      let same = one_found target other number n (sym found ∙ also) in
      subst (λ (m : ℕ). IsNoBareValue schema other m word) same.1 (subst (λ (t : Target). IsNoBareValue schema t number word) same.0 none)

  -- the value of a word, prepared for the message that another names
  abbrev ValueFor : MessageSide → List ℕ → List ℕ → Prepared → Type 0
  ValueFor side method word prepared =
      (number : ℕ) × (message_named schema side method ≡ Some (prepared.target, number)) × IsValueOf schema number word prepared

  -- it is there, or the word is none
  value : (side : MessageSide) (method word : List ℕ) → is_some (message_named schema side method) ≡ true → length word < 2 ^ 63
      → ((prepared : Prepared) × ValueFor side method word prepared)
      ⊎ ((target : Target) (number : ℕ) → message_named schema side method ≡ Some (target, number) → IsNoValue schema target number word)
  value side method word known small =
      let found = some_of (message_named schema side method) known in
      go found.0.0 found.0.1 found.1 (sent passed schema found.0.0 found.0.1 (named_there schema side method found.0.0 found.0.1 found.1) word small)
    where
      go : (target : Target) (number : ℕ) → message_named schema side method ≡ Some (target, number)
          → ((prepared : Prepared) × (prepared.target ≡ target) × IsValueOf schema number word prepared) ⊎ IsNoValue schema target number word
          → ((prepared : Prepared) × ValueFor side method word prepared)
          ⊎ ((target : Target) (number : ℕ) → message_named schema side method ≡ Some (target, number) → IsNoValue schema target number word)
      go target number e (inl p) = inl (p.0, (number, e ∙ ap (λ (t : Target). Some (t, number)) (sym p.1), p.2))
      go target number e (inr none) = inr (no_value side method word target number e none)

  -- the names before the line
  abbrev names : List (List ℕ)
  names = names_set past

  -- what is known of a line
  known_parts : (form : Form) → knows schema names form ≡ true
      → (finds schema form ≡ true) × (list_all (is_set names (seq_of form)) (needs form) ≡ true)
  known_parts form e = and_parts (finds schema form) (list_all (is_set names (seq_of form)) (needs form)) e

  -- of the names that a line needs the first, and the others
  needed : (seq : ℕ) (word : List ℕ) (words : List (List ℕ)) → list_all (is_set names seq) (word ∷ words) ≡ true
      → (is_set names seq word ≡ true) × (list_all (is_set names seq) words ≡ true)
  needed seq word words e = and_parts (is_set names seq word) (list_all (is_set names seq) words) e

  -- a call
  call : (seq : ℕ) (x : List ℕ) (id : ℕ) (method word : List ℕ) (ts : List (List ℕ)) (at : Option ℤ)
      → knows schema names (Of seq (Call x id method word ts at)) ≡ true → length word < 2 ^ 63 → Comes (Of seq (Call x id method word ts at))
  call seq x id method word ts at known small = go (value Request method word k.0 small)
    where
      k : (is_some (message_named schema Request method) ≡ true) × (list_all (is_set names seq) (x ∷ ts) ≡ true)
      k = known_parts (Of seq (Call x id method word ts at)) known

      go : ((prepared : Prepared) × ValueFor Request method word prepared)
          ⊎ ((target : Target) (number : ℕ) → message_named schema Request method ≡ Some (target, number) → IsNoValue schema target number word)
          → Comes (Of seq (Call x id method word ts at))
      go (inl p) =
          let n = needed seq x ts k.1 in
          let end = before names [] (meant names seq x) n.0 in
          let tokens = all_before names [] seq ts n.1 in
          line_of (Of seq (Call x id method word ts at)) (commands.Call end.0 id p.0 tokens.0 at, (end.1, refl, tokens.1, p.1, refl))
      go (inr none) = inr none

  -- an answer
  answer : (seq : ℕ) (x method word : List ℕ) (ts : List (List ℕ)) (at : Option ℤ) → knows schema names (Of seq (Answer x method word ts at)) ≡ true
      → length word < 2 ^ 63 → Comes (Of seq (Answer x method word ts at))
  answer seq x method word ts at known small = go (value Response method word k.0 small)
    where
      k : (is_some (message_named schema Response method) ≡ true) × (list_all (is_set names seq) (x ∷ ts) ≡ true)
      k = known_parts (Of seq (Answer x method word ts at)) known

      go : ((prepared : Prepared) × ValueFor Response method word prepared)
          ⊎ ((target : Target) (number : ℕ) → message_named schema Response method ≡ Some (target, number) → IsNoValue schema target number word)
          → Comes (Of seq (Answer x method word ts at))
      go (inl p) =
          let n = needed seq x ts k.1 in
          let responder = before names [] (meant names seq x) n.0 in
          let tokens = all_before names [] seq ts n.1 in
          line_of (Of seq (Answer x method word ts at)) (commands.Answer responder.0 p.0 tokens.0 at, (responder.1, tokens.1, p.1, refl))
      go (inr none) = inr none

  -- an automatic reply
  auto : (seq : ℕ) (method word : List ℕ) → knows schema names (Auto seq method word) ≡ true → length word < 2 ^ 63 → Comes (Auto seq method word)
  auto seq method word known small =
      let found = some_of (message_named schema Response method) (known_parts (Auto seq method word) known).0 in
      go found.0.0 found.0.1 found.1 (bare passed schema found.0.0 found.0.1 (named_there schema Response method found.0.0 found.0.1 found.1) word small)
    where
      go : (target : Target) (number : ℕ) → message_named schema Response method ≡ Some (target, number)
          → ((prepared : Prepared) × (prepared.target ≡ target) × IsValueOf schema number word prepared
          × (prepared.handles ≡ 0) × (prepared.endpoints.items ≡ []))
          ⊎ IsNoBareValue schema target number word → Comes (Auto seq method word)
      go target number e (inl p) =
          inl (
            OfReply (record { seq = record { 0 = seq }; prepared = p.0 }),
            record {
              seq = refl;
              number = number;
              target = e ∙ ap (λ (t : Target). Some (t, number)) (sym p.1);
              value = p.2;
              handles = p.3;
              endpoints = p.4;
            },
          )
      go target number e (inr none) = inr (no_bare Response method word target number e none)

  -- a line of each form
  pub on : (form : Form) → IsForm form → knows schema names form ≡ true → letters (form_words form) < 2 ^ 63 → Comes form
  on (Join seq other x y) is known small =
      let first = next names x (y ∷ []) in
      let last = second names x y in
      line_of (Join seq other x y) (commands.Join (record { 0 = other }) first.0 last.0, (refl, first.1, last.1))
  on (Auto seq method word) is known small = auto seq method word known (omega (arith, small))
  on (Of seq (Pipe x y)) is known small =
      let first = next names (own_word seq x) (own_word seq y ∷ []) in
      let last = second names (own_word seq x) (own_word seq y) in
      line_of (Of seq (Pipe x y)) (commands.Pipe first.0 last.0, (first.1, last.1))
  on (Of seq (Mint sort x)) is known small =
      let name = next names (own_word seq x) [] in
      line_of (Of seq (Mint sort x)) (commands.Mint sort name.0, (refl, name.1))
  on (Of seq (Bind x side interface)) is known small =
      let k = known_parts (Of seq (Bind x side interface)) known in
      let found = some_of (interface_named schema.interfaces interface) k.0 in
      let end = before names [] (meant names seq x) (needed seq x [] k.1).0 in
      line_of (Of seq (Bind x side interface)) (commands.Bind end.0 side found.0, (end.1, refl, found.1))
  on (Of seq (Associate x side interface p)) is known small =
      let k = known_parts (Of seq (Associate x side interface p)) known in
      let found = some_of (interface_named schema.interfaces interface) k.0 in
      let end = before names (own_word seq p ∷ []) (meant names seq x) (needed seq x [] k.1).0 in
      let pending = next names (own_word seq p) [] in
      line_of (Of seq (Associate x side interface p)) (commands.Associate end.0 side found.0 pending.0, (end.1, refl, found.1, pending.1))
  on (Of seq (Attach p other)) is known small =
      let k = known_parts (Of seq (Attach p other)) known in
      let pending = before names [] (meant names seq p) (needed seq p [] k.1).0 in
      line_of (Of seq (Attach p other)) (commands.Attach pending.0 (record { 0 = other }), (pending.1, refl))
  on (Of seq (Call x id method word ts None)) is known small =
      let few : letters ((decimal seq ++ codes ":") ∷ codes "call" ∷ endpoint_word x id ∷ method ∷ word ∷ ts) < 2 ^ 63 = small in
      call seq x id method word ts None known (omega (arith, few))
  on (Of seq (Call x id method word ts (Some at))) is known small =
      let few : letters ((decimal seq ++ codes ":") ∷ codes "call-at" ∷ signed_decimal at ∷ endpoint_word x id ∷ method ∷ word ∷ ts) < 2 ^ 63 = small in
      call seq x id method word ts (Some at) known (omega (arith, few))
  on (Of seq (Take x ns)) is known small =
      let k = known_parts (Of seq (Take x ns)) known in
      let end = before names (map (own_word seq) ns) (meant names seq x) (needed seq x [] k.1).0 in
      let got = all_next names (map (own_word seq) ns) in
      line_of (Of seq (Take x ns)) (commands.Take end.0 got.0, (end.1, got.1))
  on (Of seq (Answer x method word ts None)) is known small =
      let few : letters ((decimal seq ++ codes ":") ∷ codes "answer" ∷ x ∷ method ∷ word ∷ ts) < 2 ^ 63 = small in
      answer seq x method word ts None known (omega (arith, few))
  on (Of seq (Answer x method word ts (Some at))) is known small =
      let few : letters ((decimal seq ++ codes ":") ∷ codes "answer-at" ∷ signed_decimal at ∷ x ∷ method ∷ word ∷ ts) < 2 ^ 63 = small in
      answer seq x method word ts (Some at) known (omega (arith, few))
  on (Of seq (Raw x word ts)) is known small =
      let k = known_parts (Of seq (Raw x word ts)) known in
      let n = needed seq x ts k.1 in
      let end = before names [] (meant names seq x) n.0 in
      let tokens = all_before names [] seq ts n.1 in
      let hex = is.1 in
      line_of (Of seq (Raw x word ts)) (commands.Raw end.0 hex.0 tokens.0, (end.1, hex.1, tokens.1))
  on (Of seq (CloseToken x)) is known small =
      let k = known_parts (Of seq (CloseToken x)) known in
      let token = before names [] (meant names seq x) (needed seq x [] k.1).0 in
      line_of (Of seq (CloseToken x)) (commands.CloseToken token.0, token.1)
  on (Of seq (CloseEndpoint x id)) is known small =
      let k = known_parts (Of seq (CloseEndpoint x id)) known in
      let end = before names [] (meant names seq x) (needed seq x [] k.1).0 in
      line_of (Of seq (CloseEndpoint x id)) (commands.CloseEndpoint end.0 id, (end.1, refl))
  on (Of seq (Notify x notice)) is known small =
      let k = known_parts (Of seq (Notify x notice)) known in
      let end = before names [] (meant names seq x) (needed seq x [] k.1).0 in
      line_of (Of seq (Notify x notice)) (commands.Notify end.0 notice, (end.1, refl))
  on (Of seq (Pause x y flush)) is known small =
      let k = known_parts (Of seq (Pause x y flush)) known in
      let n = needed seq x (y ∷ []) k.1 in
      let end = before names [] (meant names seq x) n.0 in
      let other = before names [] (meant names seq y) (needed seq y [] n.1).0 in
      line_of (Of seq (Pause x y flush)) (commands.Pause end.0 other.0 flush, (end.1, other.1, refl))
  on (Of seq (Data n x y)) is known small =
      let first = next names (own_word seq x) (own_word seq y ∷ []) in
      let last = second names (own_word seq x) (own_word seq y) in
      line_of (Of seq (Data n x y)) (commands.Data n first.0 last.0, (refl, first.1, last.1))
  on (Of seq (Flow x f)) is known small =
      let k = known_parts (Of seq (Flow x f)) known in
      let token = before names [] (meant names seq x) (needed seq x [] k.1).0 in
      let flow = flow_for f is.1 in
      line_of (Of seq (Flow x f)) (commands.Flow token.0 flow.0, (token.1, flow.1))
