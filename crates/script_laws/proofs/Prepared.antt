-- The word of a value is prepared, or is no value.
use Rattle.std.proofs.Common.{◌≡◌, ◌≤◌, ◌<◌, ◌^◌, ℕ, false, List, [], ◌∷◌, length, Some, Result, Ok, Err, refl, sym, ap, ◌∙◌, subst, arith, inl, inr}
use Rattle.std.specs.Prelude.{◌⊎◌, is_ok}
use Rattle.std.proofs.lemmas.Bool.{cases_lt}
use Rattle.mj_base.specs.Bytes.{rounded8}
use Rattle.mj_schema.specs.KindTrees.{StructKind}
use Rattle.mj_schema.specs.declared.schema.Schema.{Schema}
use Rattle.wire_model.specs.Depth.{IsOfKind}
use Rattle.wire_model.specs.Tight.{MAX_DEPTH, MAX_PAYLOAD_BYTES}
use Rattle.wire_model.specs.Trees.{Tree, Fields, Null, view}
use Rattle.wire_model.specs.declared.target.Target.{Target}
use Rattle.wire_laws.proofs.Deep.{from_fits}
use Rattle.wire_encoder.specs.FirstFailed.{Met, Refusal}
use Rattle.wire_encoder.specs.Prepared.{IsPrepared, IsPrepareRefusal, flags_for, method_of, parameters_of, payload_for, verdict}
use Rattle.wire_encoder.specs.declared.prepared.Prepared.{Prepared}
use Rattle.wire_encoder.specs.declared.refusal.Flaw.{Flaw}
use Rattle.wire_encoder.specs.declared.refusal.Flaw.TheVariants as flaws
use Rattle.wire_encoder.specs.declared.refusal.PrepareError.{PrepareError}
use Rattle.wire_encoder.specs.declared.refusal.PrepareError.TheVariants.{Misfit, TooDeep, TooManyHandles, TooLong}
use Rattle.sealed_laws.proofs.Sealed.{Passed, encodes}
use Rattle.byte_rules.specs.Lang.{Read}
use Rattle.byte_rules.specs.Judged.{Spells}
use Rattle.byte_rules.specs.steps.Reading.{Judges}
use Rattle.byte_rules.specs.steps.Reading as reading
use Rattle.byte_rules.proofs.Judging.{judged, reads}
use Rattle.value_text.specs.Brackets.{MAX_BRACKETS}
use Rattle.value_text.proofs.KindLaws.{good_kind}
use Rattle.value_text.proofs.OneText.{one_text}
use Rattle.value_text.specs.Spelling.{spell}
use Rattle.call_script.specs.Script.{parameters_rule, IsValueOf, IsReason, IsNoValue, IsNoBareValue, WantsTokens}
use Rattle.script_laws.proofs.Built.{built, listed}
use Rattle.script_laws.proofs.Short.{short}

-- a word spells one value
abbrev tree_in : Read Tree → Tree
tree_in (Ok x) = x.0
tree_in (Err n) = Null

-- one at most
one_value : (schema : Schema) (number : ℕ) (word : List ℕ) (one other : Tree) → Spells (parameters_rule schema number) one word
    → Spells (parameters_rule schema number) other word → one ≡ other
one_value schema number word one other s t =
    let good = good_kind schema MAX_BRACKETS (StructKind number false) in
    ap tree_in (sym (reads (parameters_rule schema number) good word one s) ∙ reads (parameters_rule schema number) good word other t)

-- a value that doesn't pass all checks is refused for a reason
flaw_refused : (schema : Schema) (target : Target) (tree : Tree) (flaw : Flaw) (path : List ℕ)
    → verdict schema target tree ≡ Err (record { flaw = flaw; path = path })
    → (error : PrepareError) × IsReason error × IsPrepareRefusal schema target tree error
flaw_refused schema target tree flaws.Misfit path e = (Misfit path, tt, e)
flaw_refused schema target tree flaws.TooDeep path e = (TooDeep path, tt, e)
flaw_refused schema target tree flaws.TooManyHandles path e = (TooManyHandles path, tt, e)

-- nor is one that is too long
long_refused : (schema : Schema) (target : Target) (tree : Tree) (met : Met) → verdict schema target tree ≡ Ok met
    → MAX_PAYLOAD_BYTES < length (payload_for schema target tree)
    → (error : PrepareError) × IsReason error × IsPrepareRefusal schema target tree error
long_refused schema target tree met passes long =
    let over : (n : ℕ) → MAX_PAYLOAD_BYTES < n → MAX_PAYLOAD_BYTES < rounded8 n = λ n more. omega (arith, more) in
    (TooLong, tt, (ap is_ok passes, over (length (payload_for schema target tree)) long))

-- what a value makes that is prepared for a target
pub record Makes (schema : Schema) (target : Target) (tree : Tree) (met : Met) : Type 0 where
  pub prepared : Prepared
  pub of : prepared.target ≡ target
  pub value : view prepared.value ≡ tree
  pub is : IsPrepared schema prepared
  pub handles : prepared.handles ≡ met.handles
  pub endpoints : prepared.endpoints.items ≡ met.endpoints

module _ (passed : Passed) (schema : Schema) (target : Target) (number : ℕ) (there : parameters_of schema target ≡ Some number) (word : List ℕ)
    (small : length word < 2 ^ 63) where
  -- what passes, in few bytes, is prepared
  makes : (tree : Tree) (met : Met) → Spells (parameters_rule schema number) tree word → verdict schema target tree ≡ Ok met
      → length (payload_for schema target tree) ≤ MAX_PAYLOAD_BYTES → Makes schema target tree met
  makes tree met spells passes few =
      let e = encodes passed schema target number tree met there passes few in
      let fits = from_fits schema (Fields e.fields) MAX_DEPTH false (StructKind number false) e.encodable.fits in
      let kind : IsOfKind schema (StructKind number false) tree = subst (IsOfKind schema (StructKind number false)) (sym e.value) fits.0 in
      let text : word ≡ spell schema (StructKind number false) tree = one_text schema MAX_BRACKETS (StructKind number false) tree word spells in
      let long = ap length text in
      let b = built (length word) small tree (short schema (length word) (StructKind number false) tree kind (omega (arith, long))) in
      let payload = listed (payload_for schema target tree) (omega (arith, few)) in
      let some = e.few in
      let handles = some.0 in
      let endpoints = some.1 in
      let prepared : Prepared = record {
        target = target;
        value = b.value;
        payload = payload;
        flags = flags_for (method_of schema target) target;
        handles = met.handles;
        endpoints = listed met.endpoints (omega (arith, endpoints));
        few_handles = handles;
        few_endpoints = endpoints;
        short = few;
      } in
      record {
        prepared = prepared;
        of = refl;
        value = b.is;
        is = record {
          passes = ap (verdict schema target) b.is ∙ passes;
          payload = ap (payload_for schema target) (sym b.is);
          flags = refl;
        };
        handles = refl;
        endpoints = refl;
      }

  -- what a value comes to
  abbrev Comes : Tree → Type 0
  Comes tree =
      ((met : Met) × (verdict schema target tree ≡ Ok met) × Makes schema target tree met)
      ⊎ ((error : PrepareError) × IsReason error × IsPrepareRefusal schema target tree error)

  -- it is prepared, or refused for a reason
  comes : (tree : Tree) → Spells (parameters_rule schema number) tree word → Comes tree
  comes tree spells = go (verdict schema target tree) refl
    where
      fits : (met : Met) → verdict schema target tree ≡ Ok met
          → (MAX_PAYLOAD_BYTES < length (payload_for schema target tree)) ⊎ (length (payload_for schema target tree) ≤ MAX_PAYLOAD_BYTES) → Comes tree
      fits met e (inl long) = inr (long_refused schema target tree met e long)
      fits met e (inr few) = inl (met, e, makes tree met spells e few)

      go : (r : Result Met Refusal) → verdict schema target tree ≡ r → Comes tree
      go (Ok met) e = fits met e (cases_lt MAX_PAYLOAD_BYTES (length (payload_for schema target tree)))
      go (Err wrong) e = inr (flaw_refused schema target tree wrong.flaw wrong.path e)

  -- the word is that of a value that is prepared for the target, or of none
  abbrev pub Sent : Type 0
  Sent = ((prepared : Prepared) × (prepared.target ≡ target) × IsValueOf schema number word prepared) ⊎ IsNoValue schema target number word

  -- and that value carries nothing, or it is no such value
  abbrev pub Bare : Type 0
  Bare =
      ((prepared : Prepared) × (prepared.target ≡ target) × IsValueOf schema number word prepared
      × (prepared.handles ≡ 0) × (prepared.endpoints.items ≡ []))
      ⊎ IsNoBareValue schema target number word

  -- the word has a value, or none
  value_of_word : {A : Type 0} → ((tree : Tree) → Spells (parameters_rule schema number) tree word → A)
      → (((tree : Tree) → Spells (parameters_rule schema number) tree word → ⊥) → A) → A
  value_of_word {A} is_one is_none =
      go (reading.verdict (length word) ((parameters_rule schema number).read word))
      (judged (parameters_rule schema number) (good_kind schema MAX_BRACKETS (StructKind number false)) word)
    where
      go : (r : Result Tree ℕ) → Judges (parameters_rule schema number) word r → A
      go (Ok tree) is = is_one tree is
      go (Err at) is = is_none is.none

  -- it is one of the two
  pub sent : Sent
  sent = value_of_word {A = Sent} (λ tree spells. go tree spells (comes tree spells)) (λ none. inr (λ tree spells. absurd (none tree spells)))
    where
      go : (tree : Tree) → Spells (parameters_rule schema number) tree word → Comes tree → Sent
      go tree spells (inl (met, e, m)) =
          inl (m.prepared, m.of, (subst (λ (t : Tree). Spells (parameters_rule schema number) t word) (sym m.value) spells, m.is))
      go tree spells (inr refused) =
          inr (λ other also. subst (λ (t : Tree). (error : PrepareError) × IsReason error × IsPrepareRefusal schema target t error)
          (one_value schema number word tree other spells also) refused)

  -- nothing is carried, or something is
  carries : (met : Met) → ((met.handles ≡ 0) × (met.endpoints ≡ [])) ⊎ ((0 < met.handles) ⊎ (0 < length met.endpoints))
  carries met = go met.endpoints refl (cases_lt 0 met.handles)
    where
      go : (es : List _) → met.endpoints ≡ es → (0 < met.handles) ⊎ (met.handles ≤ 0)
          → ((met.handles ≡ 0) × (met.endpoints ≡ [])) ⊎ ((0 < met.handles) ⊎ (0 < length met.endpoints))
      go es e (inl some) = inr (inl some)
      go [] e (inr nothing) = inl (omega (arith, nothing), e)
      go (x ∷ es) e (inr nothing) = let many = ap length e in inr (inr (omega (arith, many)))

  -- it is one of the two as well
  pub bare : Bare
  bare = value_of_word {A = Bare} (λ tree spells. go tree spells (comes tree spells)) (λ none. inr (λ tree spells. absurd (none tree spells)))
    where
      refused_all : (tree : Tree) → Spells (parameters_rule schema number) tree word
          → ((error : PrepareError) × IsReason error × IsPrepareRefusal schema target tree error) ⊎ WantsTokens schema target tree → Bare
      refused_all tree spells why =
          inr (λ other also. subst
          (λ (t : Tree). ((error : PrepareError) × IsReason error × IsPrepareRefusal schema target t error) ⊎ WantsTokens schema target t)
          (one_value schema number word tree other spells also) why)

      made : (tree : Tree) → Spells (parameters_rule schema number) tree word → (met : Met) → verdict schema target tree ≡ Ok met
          → Makes schema target tree met → ((met.handles ≡ 0) × (met.endpoints ≡ [])) ⊎ ((0 < met.handles) ⊎ (0 < length met.endpoints)) → Bare
      made tree spells met e m (inl none) = inl (
        m.prepared,
        m.of,
        (subst (λ (t : Tree). Spells (parameters_rule schema number) t word) (sym m.value) spells, m.is),
        m.handles ∙ none.0,
        m.endpoints ∙ none.1,
      )
      made tree spells met e m (inr some) = refused_all tree spells (inr (met, e, some))

      go : (tree : Tree) → Spells (parameters_rule schema number) tree word → Comes tree → Bare
      go tree spells (inl (met, e, m)) = made tree spells met e m (carries met)
      go tree spells (inr refused) = refused_all tree spells (inl refused)
