-- Where a refusal stands.
use Rattle.std.proofs.Common.{◌≡◌, ℕ, suc, ◌+◌, ◌-◌, ◌≤◌, ◌<◌, List, [], ◌∷◌, ◌++◌, length, take, drop, Result, Ok, Err, ◌⊎◌, inl, inr, refl, sym, ap, ◌∙◌, subst, append_assoc, arith, length-append, length-drop, zero}
use Rattle.std.proofs.lemmas.List.{append-nil, take-append-drop}
use Rattle.std.proofs.Math.Seq.{take-append_seam, take-append-add}
use Rattle.mj_base.specs.declared.limits.TheConstants.{MAX_NESTED_TYPES}
use Rattle.mojom_ast.specs.declared.fault.Fault.TheVariants.{Unexpected, TooNested}
use Rattle.mojom_ast.specs.declared.file.File.{File}
use Rattle.mojom_ast.specs.declared.token.Token.{Token}
use Rattle.mojom_ast.specs.Lang.{Begun, Deep, Read}
use Rattle.mojom_ast.specs.Parsed.{Spells, Begins, EndsTooDeep}
use Rattle.grammar_laws.specs.steps.Factored.{factored}
use Rattle.grammar_laws.proofs.Asks.{Spelled, Beginning, TooDeep}
use Rattle.grammar_laws.proofs.Finds.{Passes}
use Rattle.grammar_laws.proofs.Fronts.{front_begins}
use Rattle.grammar_laws.proofs.Depths.{deep_begins}
use Rattle.grammar_laws.proofs.Statements.{good_factored}
use Rattle.grammar_laws.proofs.Same.{to_factored, from_factored}
use Rattle.mojom_parser.specs.declared.error.ParseError.{ParseError}
use Rattle.mojom_parser.specs.declared.error.ParseError.TheVariants as errors
use Rattle.mojom_parser.specs.Parsed.{Answers, AnswersAt, AnswersDeep, Blames}
use Rattle.mojom_parser.specs.steps.Verdict.{verdict, Agrees}
use Rattle.mojom_parser.proofs.Verdicts.{shown, found, whole, begun, too_deep}

-- for the place of a token that was not expected
pub left_in : (ts : List Token) (l : ℕ) → (factored MAX_NESTED_TYPES).read ts ≡ Err (Unexpected l) → l ≤ length ts
left_in ts l e = let t = shown ts (Err (Unexpected l)) e in omega (arith, ap length t.2, length-append t.0 t.1, t.3)

-- for the place of the first token behind a file
pub rest_in : (ts : List Token) (f : File) (rest : List Token) → (factored MAX_NESTED_TYPES).read ts ≡ Ok (f, rest) → length rest ≤ length ts
rest_in ts f rest e = let t = shown ts (Ok (f, rest)) e in omega (arith, ap length t.1, length-append t.0 rest)

not_empty : (f : List Token) → EndsTooDeep f → 0 < length f
not_empty [] d = absurd (elim ((good_factored MAX_NESTED_TYPES MAX_NESTED_TYPES).opens Deep (λ a q. ⊥) [] (to_factored MAX_NESTED_TYPES Deep (λ a q. ⊥) [] d))
    [ inl h ↦ h | inr n ↦ n.1.1 ])
not_empty (t ∷ ts) d = omega arith

-- for the place of a type too deep
pub deep_in : (ts : List Token) (l : ℕ) → (factored MAX_NESTED_TYPES).read ts ≡ Err (TooNested l) → l ≤ length ts
deep_in ts l e = let t = shown ts (Err (TooNested l)) e in let some : 0 < length t.0 = not_empty t.0
    (from_factored MAX_NESTED_TYPES Deep (λ a q. ⊥) t.0 (t.4 (λ a q. ⊥))) in omega (arith, ap length t.2, length-append t.0 t.1, t.3, some)

front_of : (ts f u : List Token) → ts ≡ f ++ u → take (length f) ts ≡ f
front_of ts f u e = ap (λ (l : List Token). take (length f) l) e ∙ take-append_seam f u

front_and : (ts f : List Token) (t : Token) (u : List Token) → ts ≡ f ++ (t ∷ u) → take (length f + 1) ts ≡ f ++ (t ∷ [])
front_and ts f t u e = ap (λ (l : List Token). take (length f + 1) l) e ∙ take-append-add f (t ∷ u) 1

-- a fault where nothing goes on
blame : (ts f u : List Token) (at : ℕ) → ts ≡ f ++ u → at ≡ length f → Begins f → ((t : Token) (us : List Token) → u ≡ t ∷ us → Begins (f ++ (t ∷ [])) → ⊥)
    → (u ≡ [] → (tree : File) → Spells tree ts → ⊥) → Blames (errors.Unexpected at) ts
blame ts f [] at e n b stops ends = (
  omega (arith, ap length e, length-append f [], n),
  subst Begins (sym (ap (λ (k : ℕ). take k ts) n ∙ front_of ts f [] e)) b,
  (λ lt. absurd (omega (arith, ap length e, append-nil f, ap length (append-nil f), n))),
  λ same. ends refl,
)
blame ts f (t ∷ us) at e n b stops ends = (
  omega (arith, ap length e, length-append f (t ∷ us), n),
  subst Begins (sym (ap (λ (k : ℕ). take k ts) n ∙ front_of ts f (t ∷ us) e)) b,
  (λ lt h. stops t us refl (subst Begins (ap (λ (k : ℕ). take (k + 1) ts) n ∙ front_and ts f t us e) h)),
  λ same. absurd (omega (arith, ap length e, length-append f (t ∷ us), n)),
)

regrouped : (ts f : List Token) (t : Token) (us : List Token) → ts ≡ f ++ (t ∷ us) → ts ≡ (f ++ (t ∷ [])) ++ us
regrouped ts f t us e = e ∙ sym (append_assoc f (t ∷ []) us)

-- reading stopped with so many tokens left, and one more is no beginning
stuck : (ts f : List Token) (t : Token) (us : List Token) (r : Read File) → ts ≡ f ++ (t ∷ us) → (factored MAX_NESTED_TYPES).read ts ≡ r
    → (((x : File) × (r ≡ Ok (x, us))) ⊎ Passes Beginning us r → ⊥) → Begins (f ++ (t ∷ [])) → ⊥
stuck ts f t us r e h wrong b =
    let same : (factored MAX_NESTED_TYPES).read ((f ++ (t ∷ [])) ++ us) ≡ r = ap (factored MAX_NESTED_TYPES).read (sym (regrouped ts f t us e)) ∙ h in
    wrong (subst (λ (x : Read File). ((y : File) × (x ≡ Ok (y, us))) ⊎ Passes Beginning us x) same (begun (f ++ (t ∷ [])) us b))

-- a token that was not expected has its cause
pub blames_left : (ts : List Token) (l : ℕ) → (factored MAX_NESTED_TYPES).read ts ≡ Err (Unexpected l) → Blames (errors.Unexpected (length ts - l)) ts
blames_left ts l e =
    let t = shown ts (Err (Unexpected l)) e in
    blame ts t.0 t.1 (length ts - l) t.2 (omega (arith, ap length t.2, length-append t.0 t.1, t.3))
    (MAX_NESTED_TYPES, from_factored MAX_NESTED_TYPES Begun (λ f rest. rest ≡ []) t.0 (t.4 (λ f rest. rest ≡ [])))
    (λ k us same. stuck ts t.0 k us (Err (Unexpected l)) (t.2 ∙ ap (λ (v : List Token). t.0 ++ v) same) e
    (λ w. elim w [ inl o ↦ absurd (cc) | inr le ↦ absurd (omega (arith, t.3, ap length same, le)) ]))
    (λ same tree s. elim (whole ts tree s) [ inl o ↦ absurd (cc) | inr p ↦ absurd (subst (λ (x : Read File). Passes Spelled [] x) e p) ])

rest_of : Read File → List Token
rest_of (Ok x) = x.1
rest_of (Err e) = []

-- the first token behind a file has its cause
pub blames_rest : (ts : List Token) (f : File) (k : Token) (us : List Token) → (factored MAX_NESTED_TYPES).read ts ≡ Ok (f, k ∷ us)
    → Blames (errors.Unexpected (length ts - length (k ∷ us))) ts
unfolding rest_of
blames_rest ts f k us e =
    let t = shown ts (Ok (f, k ∷ us)) e in
    blame ts t.0 (k ∷ us) (length ts - length (k ∷ us)) t.1 (omega (arith, ap length t.1, length-append t.0 (k ∷ us))) (
      MAX_NESTED_TYPES,
      from_factored MAX_NESTED_TYPES Begun (λ g rest. rest ≡ []) t.0
          (subst (λ (l : List Token). (factored MAX_NESTED_TYPES).followed Begun (λ g rest. rest ≡ []) l) (append-nil t.0)
          (t.2 Begun (λ g rest. rest ≡ []) [] refl)),
    )
    (λ k2 us2 same. stuck ts t.0 k2 us2 (Ok (f, k ∷ us)) (t.1 ∙ ap (λ (v : List Token). t.0 ++ v) same) e
    (λ w. elim w [ inl o ↦ absurd (longer us2 k us f o.0 (ap length same) o.1) | inr le ↦ absurd (omega (arith, ap length same, le)) ]))
    (λ same. absurd (cc))
  where
    longer : (us2 : List Token) (c : Token) (vs : List Token) (g x : File) → length (c ∷ vs) ≡ suc (length us2) → ◌≡◌ {A = Read File} (Ok (g, c ∷ vs))
        (Ok (x, us2)) → ⊥
    longer us2 c vs g x n o = let same : c ∷ vs ≡ us2 = ap rest_of o in omega (arith, ap length same, n)

-- a type too deep has its cause
pub blames_deep : (ts : List Token) (l : ℕ) → (factored MAX_NESTED_TYPES).read ts ≡ Err (TooNested l) → Blames (errors.TooNested (length ts - l)) ts
blames_deep ts l e =
    let t = shown ts (Err (TooNested l)) e in
    let some : 0 < length t.0 = not_empty t.0 (from_factored MAX_NESTED_TYPES Deep (λ a q. ⊥) t.0 (t.4 (λ a q. ⊥))) in
    let n : length ts ≡ length t.0 + length t.1 = ap length t.2 ∙ length-append t.0 t.1 in
    let at : length ts - l + 1 ≡ length t.0 = omega (arith, t.3) in
    let ends : EndsTooDeep (take (length ts - l + 1) ts) = subst EndsTooDeep (sym (ap (λ (k : ℕ). take k ts) at ∙ front_of ts t.0 t.1 t.2))
    (from_factored MAX_NESTED_TYPES Deep (λ a q. ⊥) t.0 (t.4 (λ a q. ⊥))) in
    (omega (arith, t.3), deep_begins (take (length ts - l + 1) ts) ends, ends)

-- every answer, from the reading
inv : (n : ℕ) (g : File) (rest : List Token) (f : File) → verdict n (Ok (g, rest)) ≡ Ok f → ◌≡◌ {A = Read File} (Ok (g, rest)) (Ok (f, []))
inv n g [] f e = ap (λ (x : File). Ok (x, [])) (cc)
inv n g (t ∷ ts) f e = absurd (cc)

-- a tree is answered where all is read
pub read_whole : (n : ℕ) (r : Read File) (f : File) → verdict n r ≡ Ok f → r ≡ Ok (f, [])
read_whole n (Ok x) f e = inv n x.0 x.1 f e
read_whole n (Err (Unexpected l)) f e = absurd (cc)
read_whole n (Err (TooNested l)) f e = absurd (cc)

-- what is read is spelled
pub is_spelled : (ts : List Token) (f : File) → verdict (length ts) ((factored MAX_NESTED_TYPES).read ts) ≡ Ok f → Spells f ts
is_spelled ts f e = found ts f (read_whole (length ts) ((factored MAX_NESTED_TYPES).read ts) f e)

blames_ok : (ts : List Token) (g : File) (rest : List Token) (v : ParseError) → (factored MAX_NESTED_TYPES).read ts ≡ Ok (g, rest) → verdict (length ts)
    (Ok (g, rest)) ≡ Err v → Blames v ts
blames_ok ts g [] v e h = absurd (cc)
blames_ok ts g (k ∷ us) v e h = let same : errors.Unexpected (length ts - length (k ∷ us)) ≡ v = cc in subst (λ (w : ParseError). Blames w ts) same
    (blames_rest ts g k us e)

blames_at : (ts : List Token) (r : Read File) (v : ParseError) → (factored MAX_NESTED_TYPES).read ts ≡ r → verdict (length ts) r ≡ Err v → Blames v ts
blames_at ts (Ok x) v e h = blames_ok ts x.0 x.1 v e h
blames_at ts (Err (Unexpected l)) v e h = let same : errors.Unexpected (length ts - l) ≡ v = cc in subst (λ (w : ParseError). Blames w ts) same
    (blames_left ts l e)
blames_at ts (Err (TooNested l)) v e h = let same : errors.TooNested (length ts - l) ≡ v = cc in subst (λ (w : ParseError). Blames w ts) same
    (blames_deep ts l e)

-- what is refused has its cause
pub is_blamed : (ts : List Token) (e : ParseError) → Agrees (Err e) (verdict (length ts) ((factored MAX_NESTED_TYPES).read ts)) → Blames e ts
is_blamed ts errors.Memory g = tt
is_blamed ts (errors.Unexpected n) g = blames_at ts ((factored MAX_NESTED_TYPES).read ts) (errors.Unexpected n) refl g
is_blamed ts (errors.TooNested n) g = blames_at ts ((factored MAX_NESTED_TYPES).read ts) (errors.TooNested n) refl g

-- what is spelled is answered
answers_deep : (ts : List Token) (tree : File) (r : Read File) (a : Result File ParseError) → Passes Spelled [] r → Agrees a (verdict (length ts) r)
    → Answers tree a
answers_deep ts tree (Ok x) a p g = absurd p
answers_deep ts tree (Err (Unexpected l)) a p g = absurd p
answers_deep ts tree (Err (TooNested l)) (Ok f) p g = absurd (cc)
answers_deep ts tree (Err (TooNested l)) (Err errors.Memory) p g = tt
answers_deep ts tree (Err (TooNested l)) (Err (errors.Unexpected n)) p g = absurd (cc)
answers_deep ts tree (Err (TooNested l)) (Err (errors.TooNested n)) p g = tt

answers_tree : (ts : List Token) (tree : File) (a : Result File ParseError) → Agrees a (verdict (length ts) (Ok (tree, []))) → Answers tree a
answers_tree ts tree (Ok f) g = cc
answers_tree ts tree (Err errors.Memory) g = tt
answers_tree ts tree (Err (errors.Unexpected n)) g = absurd (cc)
answers_tree ts tree (Err (errors.TooNested n)) g = tt

-- what is spelled is answered
pub is_answered : (ts : List Token) (tree : File) (a : Result File ParseError) → Spells tree ts
    → Agrees a (verdict (length ts) ((factored MAX_NESTED_TYPES).read ts)) → Answers tree a
is_answered ts tree a s g = elim (whole ts tree s) [
  | inl e ↦ answers_tree ts tree a (subst (λ (r : Read File). Agrees a (verdict (length ts) r)) e g)
  | inr p ↦ answers_deep ts tree ((factored MAX_NESTED_TYPES).read ts) a p g
]

deep_at : (ts : List Token) (at : ℕ) (u : List Token) (r : Read File) (a : Result File ParseError) → length ts ≡ at + 1 + length u → Passes TooDeep u r
    → Agrees a (verdict (length ts) r) → AnswersDeep at a
deep_at ts at u (Ok x) a n p g = absurd p
deep_at ts at u (Err (Unexpected l)) a n p g = absurd p
deep_at ts at u (Err (TooNested l)) (Ok f) n p g = absurd (cc)
deep_at ts at u (Err (TooNested l)) (Err errors.Memory) n p g = tt
deep_at ts at u (Err (TooNested l)) (Err (errors.Unexpected k)) n p g = absurd (cc)
deep_at ts at u (Err (TooNested l)) (Err (errors.TooNested k)) n p g = let same : length ts - l ≡ k = cc in omega arith

-- a type too deep is refused, there
pub is_too_deep : (ts : List Token) (at : ℕ) (a : Result File ParseError) → at < length ts → EndsTooDeep (take (at + 1) ts)
    → Agrees a (verdict (length ts) ((factored MAX_NESTED_TYPES).read ts)) → AnswersDeep at a
is_too_deep ts at a lt d g =
    let parts : take (at + 1) ts ++ drop (at + 1) ts ≡ ts = take-append-drop (at + 1) ts in
    let p : Passes TooDeep (drop (at + 1) ts) ((factored MAX_NESTED_TYPES).read ts) = subst
    (λ (l : List Token). Passes TooDeep (drop (at + 1) ts) ((factored MAX_NESTED_TYPES).read l)) parts
    (too_deep (take (at + 1) ts) (drop (at + 1) ts) d) in
    deep_at ts at (drop (at + 1) ts) ((factored MAX_NESTED_TYPES).read ts) a (omega (arith, length-drop (at + 1) ts)) p g

take_less : (j k : ℕ) (ts : List Token) → j ≤ k → take j (take k ts) ≡ take j ts
take_less zero k ts le = refl
take_less (suc j) zero ts le = absurd (omega arith)
take_less (suc j) (suc k) [] le = refl
take_less (suc j) (suc k) (t ∷ ts) le = ap (λ (l : List Token). t ∷ l) (take_less j k ts (omega arith))

begins_less : (j k : ℕ) (ts : List Token) → j ≤ k → Begins (take k ts) → Begins (take j ts)
begins_less j k ts le b = subst Begins (take_less j k ts le) (front_begins (take j (take k ts)) (drop j (take k ts))
    (subst Begins (sym (take-append-drop j (take k ts))) b))

tri : (a b : ℕ) → (a ≡ b) ⊎ ((a < b) ⊎ (b < a))
tri zero zero = inl refl
tri zero (suc b) = inr (inl (omega arith))
tri (suc a) zero = inr (inr (omega arith))
tri (suc a) (suc b) = elim (tri a b) [ inl e ↦ inl (ap suc e) | inr o ↦ elim o [ inl l ↦ inr (inl (omega arith)) | inr g ↦ inr (inr (omega arith)) ] ]

begins_all : (ts : List Token) (f : File) → (factored MAX_NESTED_TYPES).read ts ≡ Ok (f, []) → Begins ts
begins_all ts f e = let t = shown ts (Ok (f, [])) e in (
  MAX_NESTED_TYPES,
  from_factored MAX_NESTED_TYPES Begun (λ g rest. rest ≡ []) ts
      (subst (λ (l : List Token). (factored MAX_NESTED_TYPES).followed Begun (λ g rest. rest ≡ []) l) (sym t.1) (t.2 Begun (λ g rest. rest ≡ []) [] refl)),
)

begins_part : (n : ℕ) (ts : List Token) → Begins ts → Begins (take n ts)
begins_part n ts b = front_begins (take n ts) (drop n ts) (subst Begins (sym (take-append-drop n ts)) b)

-- where no beginning goes on is refused, there
pub is_exact : (ts : List Token) (at : ℕ) (a : Result File ParseError) → at < length ts → Begins (take at ts) → (Begins (take (at + 1) ts) → ⊥)
    → Agrees a (verdict (length ts) ((factored MAX_NESTED_TYPES).read ts)) → AnswersAt at a
is_exact ts at (Ok f) lt b stop g = stop (begins_part (at + 1) ts (begins_all ts f (read_whole (length ts) ((factored MAX_NESTED_TYPES).read ts) f g)))
is_exact ts at (Err errors.Memory) lt b stop g = tt
is_exact ts at (Err (errors.TooNested n)) lt b stop g =
    let w = is_blamed ts (errors.TooNested n) g in
    elim (tri n at) [
      | inl e ↦ absurd (stop (begins_less (at + 1) (n + 1) ts (omega (arith, e)) w.1))
      | inr o ↦ elim o [
        | inl less ↦ less
        | inr more ↦ absurd (stop (begins_less (at + 1) (n + 1) ts (omega arith) w.1))
      ]
    ]
is_exact ts at (Err (errors.Unexpected n)) lt b stop g =
    let w = is_blamed ts (errors.Unexpected n) g in
    elim (tri n at) [
      | inl e ↦ e
      | inr o ↦ elim o [
        | inl less ↦ absurd (w.2 (omega arith) (begins_less (n + 1) at ts (omega arith) b))
        | inr more ↦ absurd (stop (begins_less (at + 1) n ts (omega arith) w.1))
      ]
    ]

-- a beginning that is no file is refused at its end
pub is_end : (ts : List Token) (a : Result File ParseError) → Begins ts → ((tree : File) → Spells tree ts → ⊥)
    → Agrees a (verdict (length ts) ((factored MAX_NESTED_TYPES).read ts)) → AnswersAt (length ts) a
is_end ts (Ok f) b none g = none f (is_spelled ts f g)
is_end ts (Err errors.Memory) b none g = tt
is_end ts (Err (errors.TooNested n)) b none g = let w = is_blamed ts (errors.TooNested n) g in w.0
is_end ts (Err (errors.Unexpected n)) b none g =
    let w = is_blamed ts (errors.Unexpected n) g in
    elim (tri n (length ts)) [
      | inl e ↦ e
      | inr o ↦ elim o [
        | inl less ↦ absurd (w.2 less (begins_part (n + 1) ts b))
        | inr more ↦ absurd (omega (arith, w.0))
      ]
    ]
