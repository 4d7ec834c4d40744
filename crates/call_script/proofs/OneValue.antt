-- A word has one value, which is prepared in one way or not at all.
use Rattle.std.proofs.Common.{◌≡◌, ◌<◌, ℕ, List, [], ◌∷◌, length, sym, ◌∙◌, ap, subst, arith, false, Result, Ok, Err, inl, inr}
use Rattle.std.specs.Prelude.{◌⊎◌, Option, Some, None}
use Rattle.mj_schema.specs.declared.schema.Schema.{Schema}
use Rattle.wire_model.specs.Trees.{Tree, view, Null}
use Rattle.byte_rules.specs.Lang.{Read}
use Rattle.byte_rules.specs.Judged.{Spells}
use Rattle.byte_rules.proofs.Judging.{reads}
use Rattle.value_text.specs.Brackets.{MAX_BRACKETS}
use Rattle.value_text.proofs.KindLaws.{good_kind}
use Rattle.mj_schema.specs.KindTrees.{StructKind}
use Rattle.wire_model.specs.declared.target.Target.{Target}
use Rattle.wire_encoder.specs.FirstFailed.{Met, Refusal, nothing}
use Rattle.wire_encoder.specs.Prepared.{IsPrepared, IsPrepareRefusal, verdict, payload_for, flags_for, method_of}
use Rattle.wire_encoder.specs.declared.prepared.Prepared.{Prepared}
use Rattle.wire_encoder.specs.declared.refusal.PrepareError.{PrepareError}
use Rattle.wire_encoder.specs.declared.refusal.PrepareError.TheVariants.{Misfit, TooDeep, TooManyHandles, TooLong, Memory}
use Rattle.call_script.specs.declared.script.Command.{Command}
use Rattle.call_script.specs.declared.script.Command.TheVariants as commands
use Rattle.call_script.specs.declared.script.AutoReply.{AutoReply}
use Rattle.script_forms.specs.Forms.{Form, Auto, Of, Call, Answer}
use Rattle.call_script.specs.Same.{SamePrepared}
use Rattle.call_script.specs.Script.{parameters_rule, names_set, IsValueOf, IsReason, HasNoValue, WantsTokens, IsNoBareValue, Asks, IsAuto, IsPart}
use Rattle.call_script.specs.Script.{Part, OfLine, OfReply}

-- the tree that was read, or any
abbrev tree_in : Read Tree → Tree
tree_in (Ok x) = x.0
tree_in (Err n) = Null

value_one : (schema : Schema) (number : ℕ) (word : List ℕ) (one other : Tree)
    → Spells (parameters_rule schema number) one word → Spells (parameters_rule schema number) other word → one ≡ other
value_one schema number word one other s t =
    let good = good_kind schema MAX_BRACKETS (StructKind number false) in
    ap tree_in (sym (reads (parameters_rule schema number) good word one s) ∙ reads (parameters_rule schema number) good word other t)

-- what was prepared is not refused
not_refused : (schema : Schema) (prepared : Prepared) (error : PrepareError) → IsPrepared schema prepared → IsReason error
    → IsPrepareRefusal schema prepared.target (view prepared.value) error → ⊥
not_refused schema prepared (Misfit path) is reason refused = let passes = is.passes in absurd cc
not_refused schema prepared (TooDeep path) is reason refused = let passes = is.passes in absurd cc
not_refused schema prepared (TooManyHandles path) is reason refused = let passes = is.passes in absurd cc
not_refused schema prepared TooLong is reason refused =
    let bytes = ap length is.payload in
    let short = prepared.short in
    let long = refused.1 in omega (arith, bytes, short, long)
not_refused schema prepared Memory is reason refused = absurd reason

-- what the checks met
abbrev met_in : Result Met Refusal → Met
met_in (Ok met) = met
met_in (Err refusal) = nothing

-- what carries nothing wants nothing
wants_none : (schema : Schema) (prepared : Prepared) → IsPrepared schema prepared → prepared.handles ≡ 0 → prepared.endpoints.items ≡ []
    → WantsTokens schema prepared.target (view prepared.value) → ⊥
wants_none schema prepared is handles endpoints (met, passes, wants) = go wants
  where
    same : met ≡ record { handles = prepared.handles; endpoints = prepared.endpoints.items }
    same = ap met_in (sym passes ∙ is.passes)

    go : (0 < met.handles) ⊎ (0 < length met.endpoints) → ⊥
    go (inl some) = let none : met.handles ≡ 0 = ap (λ (m : Met). m.handles) same ∙ handles in omega (arith, some, none)
    go (inr some) =
        let none : length met.endpoints ≡ 0 = ap (λ (m : Met). length m.endpoints) same ∙ ap length endpoints in omega (arith, some, none)

-- a value that was prepared, and carries something, is none that carries nothing
pub wants_some : (schema : Schema) (target : Target) (number : ℕ) (word : List ℕ) (prepared : Prepared) → prepared.target ≡ target
    → IsValueOf schema number word prepared → (0 < prepared.handles) ⊎ (0 < length prepared.endpoints.items) → IsNoBareValue schema target number word
wants_some schema target number word prepared same value wants tree spells =
    let trees : view prepared.value ≡ tree = value_one schema number word (view prepared.value) tree value.0 spells in
    subst (λ t. ((error : PrepareError) × IsReason error × IsPrepareRefusal schema t tree error) ⊎ WantsTokens schema t tree) same
    (inr (
      record { handles = prepared.handles; endpoints = prepared.endpoints.items },
      ap (verdict schema prepared.target) (sym trees) ∙ value.1.passes,
      wants,
    ))

-- a line with a value has one
command_value : (schema : Schema) (before names : List (List ℕ)) (form : Form) (command : Command) → HasNoValue schema form
    → Asks schema before names form command → ⊥
command_value schema before names (Of seq (Call x id method word ts at)) (commands.Call end id' prepared tokens m) none asks =
    let value = asks.3 in
    let refused = none prepared.target value.0 value.1 (view prepared.value) value.2.0 in
    not_refused schema prepared refused.0 value.2.1 refused.1 refused.2
command_value schema before names (Of seq (Call x id method word ts at)) command none asks = absurd asks
command_value schema before names (Of seq (Answer x method word ts at)) (commands.Answer responder prepared tokens m) none asks =
    let value = asks.2 in
    let refused = none prepared.target value.0 value.1 (view prepared.value) value.2.0 in
    not_refused schema prepared refused.0 value.2.1 refused.1 refused.2
command_value schema before names (Of seq (Answer x method word ts at)) command none asks = absurd asks
command_value schema before names (Auto seq method word) command none asks = absurd asks
command_value schema before names form command none asks = absurd none

-- and so has an automatic reply
reply_value : (schema : Schema) (seq : ℕ) (method word : List ℕ) (reply : AutoReply) → HasNoValue schema (Auto seq method word)
    → IsAuto schema seq method word reply → ⊥
reply_value schema seq method word reply none is =
    go (none reply.prepared.target is.number is.target (view reply.prepared.value) is.value.0)
  where
    go : ((error : PrepareError) × IsReason error × IsPrepareRefusal schema reply.prepared.target (view reply.prepared.value) error)
        ⊎ WantsTokens schema reply.prepared.target (view reply.prepared.value) → ⊥
    go (inl refused) = not_refused schema reply.prepared refused.0 is.value.1 refused.1 refused.2
    go (inr wants) = wants_none schema reply.prepared is.value.1 is.handles is.endpoints wants

pub has_value : (schema : Schema) (past : List Form) (form : Form) (part : Part) → HasNoValue schema form → IsPart schema past form part → ⊥
has_value schema past form (OfLine line) none means = command_value schema (names_set past) (names_set (form ∷ past)) form line.command none means.command
has_value schema past (Auto seq method word) (OfReply reply) none means = reply_value schema seq method word reply none means
has_value schema past form (OfReply reply) none means = absurd means

-- a word names one message
abbrev target_in : Option (Target × ℕ) → Target → Target
target_in None other = other
target_in (Some found) other = found.0

-- the number that was found, or any
abbrev number_in : Option (Target × ℕ) → ℕ
number_in None = 0
number_in (Some found) = found.1

pub one_found : (a b : Target) (m n : ℕ) → ◌≡◌ {A = Option (Target × ℕ)} (Some (a, m)) (Some (b, n)) → (a ≡ b) × (m ≡ n)
one_found a b m n e = (ap (λ o. target_in o a) e, ap number_in e)

-- a value is prepared in one way

pub prepared_one : (schema : Schema) (number : ℕ) (word : List ℕ) (one other : Prepared) → one.target ≡ other.target
    → IsValueOf schema number word one → IsValueOf schema number word other → SamePrepared one other
prepared_one schema number word one other target s t =
    let tree = value_one schema number word (view one.value) (view other.value) s.0 t.0 in
    let judged : verdict schema one.target (view one.value) ≡ verdict schema other.target (view other.value) =
    ap (λ (x : Target). verdict schema x (view one.value)) target ∙ ap (verdict schema other.target) tree in
    let bytes : payload_for schema one.target (view one.value) ≡ payload_for schema other.target (view other.value) =
    ap (λ (x : Target). payload_for schema x (view one.value)) target ∙ ap (payload_for schema other.target) tree in
    let flags : flags_for (method_of schema one.target) one.target ≡ flags_for (method_of schema other.target) other.target =
    ap (λ (x : Target). flags_for (method_of schema x) x) target in
    let passed = sym s.1.passes ∙ (judged ∙ t.1.passes) in record {
      target = target;
      value = tree;
      payload = s.1.payload ∙ (bytes ∙ sym t.1.payload);
      flags = s.1.flags ∙ (flags ∙ sym t.1.flags);
      handles = ap (λ r. (met_in r).handles) passed;
      endpoints = ap (λ r. (met_in r).endpoints) passed;
    }
