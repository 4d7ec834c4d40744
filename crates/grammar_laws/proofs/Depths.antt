-- What ends with a type too deep is a beginning, with one more level of types.
use Rattle.std.proofs.Common.{◌≡◌, ℕ, List, [], ◌∷◌, Bool, true, false, nat_eq, ◌⊎◌, inl, inr, refl, sym, subst}
use Rattle.mj_base.specs.declared.limits.TheConstants.{MAX_NESTED_TYPES}
use Rattle.mojom_ast.specs.declared.classes.TheConstants.{ARRAY, MAP, HANDLE, PENDING_REMOTE, PENDING_RECEIVER, PENDING_ASSOCIATED_REMOTE, PENDING_ASSOCIATED_RECEIVER}
use Rattle.mojom_ast.specs.declared.token.Symbol.TheVariants.{Question}
use Rattle.mojom_ast.specs.declared.token.Token.{Token}
use Rattle.mojom_ast.specs.Classes.{class, identifiers}
use Rattle.mojom_ast.specs.TypeTrees.{BaseTree, TypeTree, Named}
use Rattle.mojom_ast.specs.Trees.{make_type}
use Rattle.mojom_ast.specs.Lang.{Begun, Deep, has, tok, symbol, as_value, ◌or◌, maybe, times}
use Rattle.mojom_ast.specs.Grammar.{identifier, dotted, name, handle_sort, sort_given, handle, pending_sort, pending, array, map_of, base, type_starts, type_at}
use Rattle.mojom_ast.specs.Parsed.{Begins, EndsTooDeep}
use Rattle.grammar_laws.proofs.Carries.{Change, more}
use Rattle.grammar_laws.proofs.CarriesFiles.{carry_file}

token : (classes : List ℕ) (K L : Token → List Token → Type 0) → ((x : Token) (q : List Token) → K x q → L x q)
    → (p : List Token) → (tok classes).followed Deep K p → (tok classes).followed Begun L p
token classes K L f [] h = tt
token classes K L f (t ∷ ts) h = (h.0, f t ts h.1)

first_or : (x : ℕ) (xs : List ℕ) (c : ℕ) → has (x ∷ xs) c ≡ true → (has (x ∷ []) c ≡ true) ⊎ (has xs c ≡ true)
first_or x xs c e = by (nat_eq c x) refl
  where
    by : (b : Bool) → nat_eq c x ≡ b → (has (x ∷ []) c ≡ true) ⊎ (has xs c ≡ true)
    by true h = inl (rw h refl)
    by false h = inr (rw h at e)

abbrev receiver_on : List ℕ
receiver_on = PENDING_RECEIVER ∷ PENDING_ASSOCIATED_REMOTE ∷ PENDING_ASSOCIATED_RECEIVER ∷ identifiers

-- a token that begins a pending type or a name is the beginning of one
pending_wakes : (t : Token) (K : BaseTree → List Token → Type 0) → has (PENDING_REMOTE ∷ receiver_on) (class t) ≡ true
    → (pending or as_value Named name).followed Begun K (t ∷ [])
unfolding pending pending_sort name dotted identifier times
pending_wakes t K e = elim (first_or PENDING_REMOTE receiver_on (class t) e) [
  | inl a ↦ inl (inl (a, tt))
  | inr e1 ↦ elim (first_or PENDING_RECEIVER (PENDING_ASSOCIATED_REMOTE ∷ PENDING_ASSOCIATED_RECEIVER ∷ identifiers) (class t) e1) [
    | inl a ↦ inl (inr (inl (a, tt)))
    | inr e2 ↦ elim (first_or PENDING_ASSOCIATED_REMOTE (PENDING_ASSOCIATED_RECEIVER ∷ identifiers) (class t) e2) [
      | inl a ↦ inl (inr (inr (inl (a, tt))))
      | inr e3 ↦ elim (first_or PENDING_ASSOCIATED_RECEIVER identifiers (class t) e3) [
        | inl a ↦ inl (inr (inr (inr (a, tt))))
        | inr e4 ↦ inr (e4, (1, inl tt))
      ]
    ]
  ]
]

-- a token that begins a type is the beginning of one, within one level
wakes : (t : Token) (L : TypeTree → List Token → Type 0) → has type_starts (class t) ≡ true → (type_at 1).followed Begun L (t ∷ [])
unfolding type_at base array map_of handle sort_given handle_sort
wakes t L e = elim (first_or ARRAY (MAP ∷ HANDLE ∷ PENDING_REMOTE ∷ receiver_on) (class t) e) [
  | inl a ↦ inl (a, tt)
  | inr e1 ↦ elim (first_or MAP (HANDLE ∷ PENDING_REMOTE ∷ receiver_on) (class t) e1) [
    | inl a ↦ inr (inl (a, tt))
    | inr e2 ↦ elim (first_or HANDLE (PENDING_REMOTE ∷ receiver_on) (class t) e2) [
      | inl a ↦ inr (inr (inl (a, inl tt)))
      | inr e3 ↦ inr (inr (inr (pending_wakes t (λ b. (maybe (symbol Question)).followed Begun (λ q. L (make_type (b, q)))) e3)))
    ]
  ]
]

deepest : (K L : TypeTree → List Token → Type 0) (p : List Token) → (type_at 0).followed Deep K p → (type_at 1).followed Begun L p
unfolding type_at
deepest K L [] h = absurd h
deepest K L (t ∷ ts) h = subst (λ (l : List Token). (type_at 1).followed Begun L (t ∷ l)) (sym h.2) (wakes t L h.0)

abbrev deeper : Change
deeper = record { known = Deep; wanted = Begun; extended = λ p. p; levels = 1; token = token; deepest = deepest }

-- for the place of a refusal: what is before it is a beginning
pub deep_begins : (ts : List Token) → EndsTooDeep ts → Begins ts
deep_begins ts d = (more 1 MAX_NESTED_TYPES, (carry_file deeper MAX_NESTED_TYPES).carry (λ f rest. ⊥) (λ f rest. rest ≡ []) (λ f q k. absurd k) ts d)
