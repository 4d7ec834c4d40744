-- What the words of a call and of an answer can be.
use Rattle.std.proofs.Common.{◌≡◌, ◌<◌, ◌^◌, ℕ, List, [], ◌∷◌, ◌++◌, length, refl, sym, ap, ◌∙◌, subst, arith, true, false}
use Rattle.std.specs.Prelude.{ℤ, ◌==◌, ◌&&◌, codes, Option, Some, None}
use Rattle.std.specs.Fmt.{signed_decimal}
use Rattle.std.proofs.lemmas.Bool.Decides.{nat_tests}
use Rattle.bind_model.specs.declared.asked.Notice.TheVariants.{Query, Require, Flush}
use Rattle.script_words.specs.Letters.{is_name, are_names, endpoint_word, is_method_word}
use Rattle.script_words.proofs.Splits.{and_true}
use Rattle.script_forms.specs.Forms.{Said, Pipe, Mint, Bind, Associate, Attach, Call, Take, Answer, Raw, CloseToken, CloseEndpoint, Notify, Pause}
use Rattle.script_forms.specs.Forms.{Data, Flow}
use Rattle.script_forms.specs.Forms.{IsMoment, IsSaid, answer_start, call_start, said_words}
use Rattle.script_forms.proofs.Moments.{moment_one}
use Rattle.script_forms.proofs.MoveWords.{no_move}
use Rattle.script_forms.proofs.Sayings.{apart, first_is, rest_is}

-- a moment is told apart by the words that a call or an answer begins with
pub call_moment : (a b : Option ℤ) → IsMoment a → IsMoment b → call_start a ≡ call_start b → a ≡ b
call_moment None None ha hb e = refl
call_moment None (Some y) ha hb e = absurd (apart _ _ _ _ refl e)
call_moment (Some z) None ha hb e = absurd (apart _ _ _ _ refl e)
call_moment (Some z) (Some y) ha hb e = ap Some (moment_one z y ha hb (first_is _ _ _ _ (rest_is _ _ _ _ e)))

pub answer_moment : (a b : Option ℤ) → IsMoment a → IsMoment b → answer_start a ≡ answer_start b → a ≡ b
answer_moment None None ha hb e = refl
answer_moment None (Some y) ha hb e = absurd (apart _ _ _ _ refl e)
answer_moment (Some z) None ha hb e = absurd (apart _ _ _ _ refl e)
answer_moment (Some z) (Some y) ha hb e = ap Some (moment_one z y ha hb (first_is _ _ _ _ (rest_is _ _ _ _ e)))

pub record IsCall (moment : Option ℤ) (words : List (List ℕ)) (said : Said) : Type 0 where
  pub end : List ℕ
  pub id : ℕ
  pub method : List ℕ
  pub value : List ℕ
  pub tokens : List (List ℕ)
  pub at : Option ℤ
  pub is : said ≡ Call end id method value tokens at
  pub are : words ≡ endpoint_word end id ∷ method ∷ value ∷ tokens
  pub start : call_start moment ≡ call_start at
  pub named : is_name end ≡ true
  pub small : id < 2 ^ 32
  pub worded : is_method_word method ≡ true
  pub some : 0 < length value
  pub all_named : are_names tokens ≡ true
  pub timed : IsMoment at

-- behind equal moments
call_again : (z y : ℤ) (us vs : List (List ℕ)) → call_start (Some z) ++ us ≡ call_start (Some y) ++ vs
    → (call_start (Some z) ≡ call_start (Some y)) × (us ≡ vs)
call_again z y us vs e =
    let words : codes "call-at" ∷ signed_decimal z ∷ us ≡ codes "call-at" ∷ signed_decimal y ∷ vs = e in
    let digits : signed_decimal z ≡ signed_decimal y = cc in
    let others : us ≡ vs = cc in (ap (λ w. codes "call-at" ∷ w ∷ []) digits, others)

pub call_only : (moment : Option ℤ) (words : List (List ℕ)) (said : Said) → IsSaid said → call_start moment ++ words ≡ said_words said
    → IsCall moment words said
call_only None words (Call x n m v ts None) h e = record {
  end = x;
  id = n;
  method = m;
  value = v;
  tokens = ts;
  named = h.0;
  small = h.1;
  worded = h.2;
  some = h.3;
  all_named = h.4;
  timed = h.5;
  at = None;
  is = refl;
  are = rest_is _ _ _ _ e;
  start = refl;
}
call_only (Some z) words (Call x n m v ts (Some y)) h e = record {
  end = x;
  id = n;
  method = m;
  value = v;
  tokens = ts;
  named = h.0;
  small = h.1;
  worded = h.2;
  some = h.3;
  all_named = h.4;
  timed = h.5;
  at = Some y;
  is = refl;
  are = (call_again z y words _ e).1;
  start = (call_again z y words _ e).0;
}
call_only None words (Pipe x y) h e = absurd (apart _ _ _ _ refl e)
call_only None words (Mint s x) h e = absurd (apart _ _ _ _ refl e)
call_only None words (Bind x s i) h e = absurd (apart _ _ _ _ refl e)
call_only None words (Associate x s i p) h e = absurd (apart _ _ _ _ refl e)
call_only None words (Attach x n) h e = absurd (apart _ _ _ _ refl e)
call_only None words (Call x n m v ts (Some y)) h e = absurd (apart _ _ _ _ refl e)
call_only None words (Take x ns) h e = absurd (apart _ _ _ _ refl e)
call_only None words (Answer r m v ts None) h e = absurd (apart _ _ _ _ refl e)
call_only None words (Answer r m v ts (Some y)) h e = absurd (apart _ _ _ _ refl e)
call_only None words (Raw x b ts) h e = absurd (apart _ _ _ _ refl e)
call_only None words (CloseToken x) h e = absurd (apart _ _ _ _ refl e)
call_only None words (CloseEndpoint x n) h e = absurd (apart _ _ _ _ refl e)
call_only None words (Notify x (Query n)) h e = absurd (apart _ _ _ _ refl e)
call_only None words (Notify x (Require n v)) h e = absurd (apart _ _ _ _ refl e)
call_only None words (Notify x Flush) h e = absurd (apart _ _ _ _ refl e)
call_only None words (Pause x y k) h e = absurd (apart _ _ _ _ refl e)
call_only None words (Data n x y) h e = absurd (apart _ _ _ _ refl e)
call_only None words (Flow x f) h e = absurd (no_move (codes "call") f refl (first_is _ _ _ _ e))
call_only (Some z) words (Pipe x y) h e = absurd (apart _ _ _ _ refl e)
call_only (Some z) words (Mint s x) h e = absurd (apart _ _ _ _ refl e)
call_only (Some z) words (Bind x s i) h e = absurd (apart _ _ _ _ refl e)
call_only (Some z) words (Associate x s i p) h e = absurd (apart _ _ _ _ refl e)
call_only (Some z) words (Attach x n) h e = absurd (apart _ _ _ _ refl e)
call_only (Some z) words (Call x n m v ts None) h e = absurd (apart _ _ _ _ refl e)
call_only (Some z) words (Take x ns) h e = absurd (apart _ _ _ _ refl e)
call_only (Some z) words (Answer r m v ts None) h e = absurd (apart _ _ _ _ refl e)
call_only (Some z) words (Answer r m v ts (Some y)) h e = absurd (apart _ _ _ _ refl e)
call_only (Some z) words (Raw x b ts) h e = absurd (apart _ _ _ _ refl e)
call_only (Some z) words (CloseToken x) h e = absurd (apart _ _ _ _ refl e)
call_only (Some z) words (CloseEndpoint x n) h e = absurd (apart _ _ _ _ refl e)
call_only (Some z) words (Notify x (Query n)) h e = absurd (apart _ _ _ _ refl e)
call_only (Some z) words (Notify x (Require n v)) h e = absurd (apart _ _ _ _ refl e)
call_only (Some z) words (Notify x Flush) h e = absurd (apart _ _ _ _ refl e)
call_only (Some z) words (Pause x y k) h e = absurd (apart _ _ _ _ refl e)
call_only (Some z) words (Data n x y) h e = absurd (apart _ _ _ _ refl e)
call_only (Some z) words (Flow x f) h e = absurd (no_move (codes "call-at") f refl (first_is _ _ _ _ e))

pub record IsAnswer (moment : Option ℤ) (words : List (List ℕ)) (said : Said) : Type 0 where
  pub responder : List ℕ
  pub method : List ℕ
  pub value : List ℕ
  pub tokens : List (List ℕ)
  pub at : Option ℤ
  pub is : said ≡ Answer responder method value tokens at
  pub are : words ≡ responder ∷ method ∷ value ∷ tokens
  pub start : answer_start moment ≡ answer_start at
  pub named : is_name responder ≡ true
  pub worded : is_method_word method ≡ true
  pub some : 0 < length value
  pub all_named : are_names tokens ≡ true
  pub timed : IsMoment at

answer_again : (z y : ℤ) (us vs : List (List ℕ)) → answer_start (Some z) ++ us ≡ answer_start (Some y) ++ vs
    → (answer_start (Some z) ≡ answer_start (Some y)) × (us ≡ vs)
answer_again z y us vs e =
    let words : codes "answer-at" ∷ signed_decimal z ∷ us ≡ codes "answer-at" ∷ signed_decimal y ∷ vs = e in
    let digits : signed_decimal z ≡ signed_decimal y = cc in
    let others : us ≡ vs = cc in (ap (λ w. codes "answer-at" ∷ w ∷ []) digits, others)

pub answer_only : (moment : Option ℤ) (words : List (List ℕ)) (said : Said) → IsSaid said → answer_start moment ++ words ≡ said_words said
    → IsAnswer moment words said
answer_only None words (Answer r m v ts None) h e = record {
  responder = r;
  method = m;
  value = v;
  tokens = ts;
  named = h.0;
  worded = h.1;
  some = h.2;
  all_named = h.3;
  timed = h.4;
  at = None;
  is = refl;
  are = rest_is _ _ _ _ e;
  start = refl;
}
answer_only (Some z) words (Answer r m v ts (Some y)) h e = record {
  responder = r;
  method = m;
  value = v;
  tokens = ts;
  named = h.0;
  worded = h.1;
  some = h.2;
  all_named = h.3;
  timed = h.4;
  at = Some y;
  is = refl;
  are = (answer_again z y words _ e).1;
  start = (answer_again z y words _ e).0;
}
answer_only None words (Pipe x y) h e = absurd (apart _ _ _ _ refl e)
answer_only None words (Mint s x) h e = absurd (apart _ _ _ _ refl e)
answer_only None words (Bind x s i) h e = absurd (apart _ _ _ _ refl e)
answer_only None words (Associate x s i p) h e = absurd (apart _ _ _ _ refl e)
answer_only None words (Attach x n) h e = absurd (apart _ _ _ _ refl e)
answer_only None words (Call x n m v ts None) h e = absurd (apart _ _ _ _ refl e)
answer_only None words (Call x n m v ts (Some y)) h e = absurd (apart _ _ _ _ refl e)
answer_only None words (Take x ns) h e = absurd (apart _ _ _ _ refl e)
answer_only None words (Answer r m v ts (Some y)) h e = absurd (apart _ _ _ _ refl e)
answer_only None words (Raw x b ts) h e = absurd (apart _ _ _ _ refl e)
answer_only None words (CloseToken x) h e = absurd (apart _ _ _ _ refl e)
answer_only None words (CloseEndpoint x n) h e = absurd (apart _ _ _ _ refl e)
answer_only None words (Notify x (Query n)) h e = absurd (apart _ _ _ _ refl e)
answer_only None words (Notify x (Require n v)) h e = absurd (apart _ _ _ _ refl e)
answer_only None words (Notify x Flush) h e = absurd (apart _ _ _ _ refl e)
answer_only None words (Pause x y k) h e = absurd (apart _ _ _ _ refl e)
answer_only None words (Data n x y) h e = absurd (apart _ _ _ _ refl e)
answer_only None words (Flow x f) h e = absurd (no_move (codes "answer") f refl (first_is _ _ _ _ e))
answer_only (Some z) words (Pipe x y) h e = absurd (apart _ _ _ _ refl e)
answer_only (Some z) words (Mint s x) h e = absurd (apart _ _ _ _ refl e)
answer_only (Some z) words (Bind x s i) h e = absurd (apart _ _ _ _ refl e)
answer_only (Some z) words (Associate x s i p) h e = absurd (apart _ _ _ _ refl e)
answer_only (Some z) words (Attach x n) h e = absurd (apart _ _ _ _ refl e)
answer_only (Some z) words (Call x n m v ts None) h e = absurd (apart _ _ _ _ refl e)
answer_only (Some z) words (Call x n m v ts (Some y)) h e = absurd (apart _ _ _ _ refl e)
answer_only (Some z) words (Take x ns) h e = absurd (apart _ _ _ _ refl e)
answer_only (Some z) words (Answer r m v ts None) h e = absurd (apart _ _ _ _ refl e)
answer_only (Some z) words (Raw x b ts) h e = absurd (apart _ _ _ _ refl e)
answer_only (Some z) words (CloseToken x) h e = absurd (apart _ _ _ _ refl e)
answer_only (Some z) words (CloseEndpoint x n) h e = absurd (apart _ _ _ _ refl e)
answer_only (Some z) words (Notify x (Query n)) h e = absurd (apart _ _ _ _ refl e)
answer_only (Some z) words (Notify x (Require n v)) h e = absurd (apart _ _ _ _ refl e)
answer_only (Some z) words (Notify x Flush) h e = absurd (apart _ _ _ _ refl e)
answer_only (Some z) words (Pause x y k) h e = absurd (apart _ _ _ _ refl e)
answer_only (Some z) words (Data n x y) h e = absurd (apart _ _ _ _ refl e)
answer_only (Some z) words (Flow x f) h e = absurd (no_move (codes "answer-at") f refl (first_is _ _ _ _ e))

-- ## Words that are none

-- three words and others, one after another
pub joined : (words rest more others : List (List ℕ)) (x m v : List ℕ) → words ≡ x ∷ rest → rest ≡ m ∷ more → more ≡ v ∷ others
    → words ≡ x ∷ m ∷ v ∷ others
joined words rest more others x m v first second third = first ∙ ap (λ (t : List (List ℕ)). x ∷ t) (second ∙ ap (λ (t : List (List ℕ)). m ∷ t) third)

-- no value is empty
empty_none : (v : List ℕ) → (length v == 0) ≡ true → 0 < length v → ⊥
empty_none [] none some = omega (arith, some)
empty_none (x ∷ xs) none some = let z : length (x ∷ xs) ≡ 0 = grind (arith, nat_tests) in absurd (omega (arith, z))

module _ (moment : Option ℤ) (words : List (List ℕ)) (said : Said) (is : IsSaid said) (x m v : List ℕ) (ts : List (List ℕ))
    (are : words ≡ x ∷ m ∷ v ∷ ts) where
  -- no call has other tokens
  pub call_named : call_start moment ++ words ≡ said_words said → are_names ts ≡ false → ⊥
  call_named e other =
      let p = call_only moment words said is e in
      let q : x ∷ m ∷ v ∷ ts ≡ endpoint_word p.end p.id ∷ p.method ∷ p.value ∷ p.tokens = sym are ∙ p.are in
      let same : ts ≡ p.tokens = cc in
      let yes : are_names ts ≡ true = ap are_names same ∙ p.all_named in cc

  -- nor an empty value
  pub call_valued : call_start moment ++ words ≡ said_words said → (length v == 0) ≡ true → ⊥
  call_valued e none =
      let p = call_only moment words said is e in
      let q : x ∷ m ∷ v ∷ ts ≡ endpoint_word p.end p.id ∷ p.method ∷ p.value ∷ p.tokens = sym are ∙ p.are in
      let same : v ≡ p.value = cc in empty_none v none (subst (λ (w : List ℕ). 0 < length w) (sym same) p.some)

  -- no answer is of another name, or has other tokens
  pub answer_named : answer_start moment ++ words ≡ said_words said → (is_name x && are_names ts) ≡ false → ⊥
  answer_named e other =
      let p = answer_only moment words said is e in
      let q : x ∷ m ∷ v ∷ ts ≡ p.responder ∷ p.method ∷ p.value ∷ p.tokens = sym are ∙ p.are in
      let first : x ≡ p.responder = cc in
      let same : ts ≡ p.tokens = cc in
      let yes : (is_name x && are_names ts) ≡ true = and_true (is_name x) (are_names ts) (ap is_name first ∙ p.named) (ap are_names same ∙ p.all_named)
      in cc

  -- nor has an empty value
  pub answer_valued : answer_start moment ++ words ≡ said_words said → (length v == 0) ≡ true → ⊥
  answer_valued e none =
      let p = answer_only moment words said is e in
      let q : x ∷ m ∷ v ∷ ts ≡ p.responder ∷ p.method ∷ p.value ∷ p.tokens = sym are ∙ p.are in
      let same : v ≡ p.value = cc in empty_none v none (subst (λ (w : List ℕ). 0 < length w) (sym same) p.some)
