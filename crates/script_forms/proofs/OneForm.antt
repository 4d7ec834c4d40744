-- Words have one form.
use Rattle.std.proofs.Common.{◌≡◌, ◌<◌, ◌≤◌, ℕ, List, [], ◌∷◌, ◌++◌, refl, sym, ◌∙◌, subst, arith, true, lit≤}
use Rattle.std.specs.Prelude.{codes, decimal, ◌^◌}
use Rattle.std.specs.Char.{digit_value}
use Rattle.std.specs.Str.Parse.{AllDigits}
use Rattle.std.proofs.lemmas.Fmt.{decimal_injective, decimal_is_IsNumeral}
use Rattle.std.proofs.lemmas.List.{append_cancel_right}
use Rattle.bind_model.specs.declared.asked.Notice.TheVariants.{Query, Require, Flush}
use Rattle.handle_table.specs.declared.thing.TokenSort.{TokenSort}
use Rattle.handle_table.specs.declared.thing.TokenSort.TheVariants.{SharedBuffer, Platform}
use Rattle.wire_encoder.specs.declared.endpoint.EndpointSide.{EndpointSide}
use Rattle.wire_encoder.specs.declared.endpoint.EndpointSide.TheVariants.{Remote, Receiver}
use Rattle.script_words.specs.Letters.{endpoint_word, is_name}
use Rattle.script_forms.specs.Forms.{Said, Pipe, Mint, Bind, Associate, Attach, Call, Take, Answer, Raw, CloseToken, CloseEndpoint, Notify, Pause}
use Rattle.script_forms.specs.Forms.{Data, Flow}
use Rattle.script_forms.specs.Forms.{Form, Join, Auto, Of, IsForm, IsSaid, said_words, form_words, sort_word, side_word}
use Rattle.script_forms.specs.Forms.{said_sequences, sequences, AreThere}
use Rattle.script_forms.specs.steps.Numbers.{IsEndpoint}
use Rattle.script_forms.proofs.Endpoints.{parts_of, name_parts}
use Rattle.script_forms.proofs.Sayings.{first_is, rest_is, apart, pipe_only, mint_only, bind_only, associate_only, attach_only, take_only}
use Rattle.script_forms.proofs.MoveWords.{moved_one}
use Rattle.script_forms.proofs.Sayings.{raw_only, close_only, query_only, require_only, flush_only, pause_only, data_only, flow_only}
use Rattle.script_forms.proofs.Sayings.{Closes, Token, Endpoint}
use Rattle.script_forms.proofs.Sendings.{answer_moment, answer_only, call_moment, call_only}

sort_one : (a b : TokenSort) → sort_word a ≡ sort_word b → a ≡ b
sort_one SharedBuffer SharedBuffer e = refl
sort_one SharedBuffer Platform e = absurd cc
sort_one Platform SharedBuffer e = absurd cc
sort_one Platform Platform e = refl

side_one : (a b : EndpointSide) → side_word a ≡ side_word b → a ≡ b
side_one Remote Remote e = refl
side_one Remote Receiver e = absurd cc
side_one Receiver Remote e = absurd cc
side_one Receiver Receiver e = refl

-- the word of an endpoint has one name and one id
endpoint_one : (word a b : List ℕ) (m n : ℕ) → IsEndpoint word a m → IsEndpoint word b n → (a ≡ b) × (m ≡ n)
endpoint_one word a b m n one other =
    let parts : a ∷ decimal m ∷ [] ≡ b ∷ decimal n ∷ [] = sym (parts_of word a m one) ∙ parts_of word b n other in
    let names : a ≡ b = cc in
    let digits : decimal m ≡ decimal n = cc in
    let s = one.2 in
    let t = other.2 in
    (names, decimal_injective m n (omega arith) (omega arith) digits)

-- a name is no endpoint
no_endpoint : (word name : List ℕ) (id : ℕ) → is_name word ≡ true → IsEndpoint word name id → ⊥
no_endpoint word name id named is =
    let parts : word ∷ [] ≡ name ∷ decimal id ∷ [] = sym (name_parts word named) ∙ parts_of word name id is in absurd cc

-- a line of the setup is none of a sequence
no_digit : (c : ℕ) → 10 ≤ digit_value c → digit_value c < 10 → ⊥
no_digit c big d = omega (arith, d, big)

not_joined : (c b : ℕ) (bytes ds : List ℕ) → 10 ≤ digit_value c → AllDigits 10 ds → c ∷ b ∷ bytes ≡ ds ++ codes ":" → ⊥
not_joined c b bytes [] big a e = absurd cc
not_joined c b bytes (d ∷ ds) big a e = let first : d ≡ c = cc in no_digit c big (rw first at a.0)

-- where there are so many sequences
module _ (seqs : ℕ) (few : seqs < 2 ^ 64) where
  -- what is said has one meaning
  said_one : (a b : Said) → IsSaid a → IsSaid b → AreThere seqs (said_sequences a) → AreThere seqs (said_sequences b) → said_words a ≡ said_words b → a ≡ b
  said_one (Pipe x y) b ha hb ta tb e = let p = pipe_only (x ∷ y ∷ []) b hb e in cc
  said_one (Mint sort x) b ha hb ta tb e =
      let p = mint_only (sort_word sort ∷ x ∷ []) b hb e in
      let words : sort_word sort ≡ sort_word p.sort = cc in
      let same = sort_one sort p.sort words in cc
  said_one (Bind x side i) b ha hb ta tb e =
      let p = bind_only (x ∷ side_word side ∷ i ∷ []) b hb e in
      let words : side_word side ≡ side_word p.side = cc in
      let same = side_one side p.side words in cc
  said_one (Associate x side i y) b ha hb ta tb e =
      let p = associate_only (x ∷ side_word side ∷ i ∷ y ∷ []) b hb e in
      let words : side_word side ≡ side_word p.side = cc in
      let same = side_one side p.side words in cc
  said_one (Attach x n) b ha hb ta tb e =
      let p = attach_only (x ∷ decimal n ∷ []) b hb e in
      let there : AreThere seqs (p.seq ∷ []) = subst (λ s. AreThere seqs (said_sequences s)) p.is tb in
      let words : decimal n ≡ decimal p.seq = cc in
      let same = decimal_injective n p.seq (omega (arith, few, ta.0)) (omega (arith, few, there.0)) words in cc
  said_one (Call x n m v ts at) b ha hb ta tb e =
      let p = call_only at (endpoint_word x n ∷ m ∷ v ∷ ts) b hb e in
      let words : endpoint_word x n ≡ endpoint_word p.end p.id = cc in
      let same = endpoint_one (endpoint_word x n) x p.end n p.id (refl, ha.0, ha.1) (words, p.named, p.small) in
      let moments : at ≡ p.at = call_moment at p.at ha.5 p.timed p.start in cc
  said_one (Take x ns) b ha hb ta tb e = let p = take_only (x ∷ ns) b hb e in cc
  said_one (Answer r m v ts at) b ha hb ta tb e =
      let p = answer_only at (r ∷ m ∷ v ∷ ts) b hb e in
      let moments : at ≡ p.at = answer_moment at p.at ha.4 p.timed p.start in cc
  said_one (Raw x w ts) b ha hb ta tb e = let p = raw_only (x ∷ w ∷ ts) b hb e in cc
  said_one (CloseToken x) b ha hb ta tb e = go (close_only (x ∷ []) b hb e)
    where
      go : Closes (x ∷ []) b → CloseToken x ≡ b
      go (Token y is are named) = cc
      go (Endpoint y n is are named small) =
          let word : x ≡ endpoint_word y n = cc in absurd (no_endpoint x y n ha (word, named, small))
  said_one (CloseEndpoint x k) b ha hb ta tb e = go (close_only (endpoint_word x k ∷ []) b hb e)
    where
      go : Closes (endpoint_word x k ∷ []) b → CloseEndpoint x k ≡ b
      go (Token y is are named) =
          let word : endpoint_word x k ≡ y = cc in absurd (no_endpoint y x k named (sym word, ha.0, ha.1))
      go (Endpoint y n is are named small) =
          let word : endpoint_word x k ≡ endpoint_word y n = cc in
          let same = endpoint_one (endpoint_word x k) x y k n (refl, ha.0, ha.1) (word, named, small) in cc
  said_one (Notify x (Query n)) b ha hb ta tb e =
      let p = query_only (endpoint_word x n ∷ []) b hb e in
      let words : endpoint_word x n ≡ endpoint_word p.end p.id = cc in
      let same = endpoint_one (endpoint_word x n) x p.end n p.id (refl, ha.0, ha.1) (words, p.named, p.small) in cc
  said_one (Notify x (Require n v)) b ha hb ta tb e =
      let p = require_only (endpoint_word x n ∷ decimal v ∷ []) b hb e in
      let words : endpoint_word x n ≡ endpoint_word p.end p.id = cc in
      let same = endpoint_one (endpoint_word x n) x p.end n p.id (refl, ha.0, ha.1.0) (words, p.named, p.small) in
      let digits : decimal v ≡ decimal p.version = cc in
      let versions : v ≡ p.version = decimal_injective v p.version (omega (arith, ha.1.1)) (omega (arith, p.narrow)) digits in cc
  said_one (Notify x Flush) b ha hb ta tb e = let p = flush_only (x ∷ []) b hb e in cc
  said_one (Pause x y k) b ha hb ta tb e =
      let p = pause_only (x ∷ y ∷ decimal k ∷ []) b hb e in
      let digits : decimal k ≡ decimal p.flush = cc in
      let flushes : k ≡ p.flush = decimal_injective k p.flush (omega (arith, ha.2)) (omega (arith, p.small)) digits in cc
  said_one (Data n x y) b ha hb ta tb e =
      let p = data_only (decimal n ∷ x ∷ y ∷ []) b hb e in
      let digits : decimal n ≡ decimal p.size = cc in
      let sizes : n ≡ p.size = decimal_injective n p.size (omega (arith, ha.2)) (omega (arith, p.small)) digits in cc
  said_one (Flow x f) b ha hb ta tb e =
      let p = flow_only x f b hb e in
      let named : x ≡ p.name = p.named in
      let same : f ≡ p.found = moved_one f p.found ha.1 p.fine p.word p.tail in
      let is : b ≡ Flow p.name p.found = p.is in cc

  join_word : (seq : ℕ) → seq < seqs → codes "join" ≡ decimal seq ++ codes ":" → ⊥
  join_word seq h e = not_joined 106 111 (codes "in") (decimal seq) (lit≤ tt) (decimal_is_IsNumeral seq (omega (arith, few, h))).0.1 e

  auto_word : (seq : ℕ) → seq < seqs → codes "auto" ≡ decimal seq ++ codes ":" → ⊥
  auto_word seq h e = not_joined 97 117 (codes "to") (decimal seq) (lit≤ tt) (decimal_is_IsNumeral seq (omega (arith, few, h))).0.1 e

  -- a line has one form
  pub form_one : (a b : Form) → IsForm a → IsForm b → AreThere seqs (sequences a) → AreThere seqs (sequences b) → form_words a ≡ form_words b → a ≡ b
  form_one (Join m n x y) (Join m' n' x' y') ha hb ta tb e =
      let one : decimal m ≡ decimal m' = cc in
      let two : decimal n ≡ decimal n' = cc in
      let first : m ≡ m' = decimal_injective m m' (omega (arith, few, ta.0)) (omega (arith, few, tb.0)) one in
      let second : n ≡ n' = decimal_injective n n' (omega (arith, few, ta.1.0)) (omega (arith, few, tb.1.0)) two in cc
  form_one (Join m n x y) (Auto seq method value) ha hb ta tb e = absurd (apart _ _ _ _ refl e)
  form_one (Auto seq method value) (Join m n x y) ha hb ta tb e = absurd (apart _ _ _ _ refl e)
  form_one (Auto m method value) (Auto n method' value') ha hb ta tb e =
      let digits : decimal m ≡ decimal n = cc in
      let seq : m ≡ n = decimal_injective m n (omega (arith, few, ta.0)) (omega (arith, few, tb.0)) digits in cc
  form_one (Auto m method value) (Of seq said) ha hb ta tb e = absurd (auto_word seq tb.0 (first_is _ _ _ _ e))
  form_one (Of seq said) (Auto m method value) ha hb ta tb e = absurd (auto_word seq ta.0 (sym (first_is _ _ _ _ e)))
  form_one (Join m n x y) (Of seq said) ha hb ta tb e = absurd (join_word seq tb.0 (first_is _ _ _ _ e))
  form_one (Of seq said) (Join m n x y) ha hb ta tb e = absurd (join_word seq ta.0 (sym (first_is _ _ _ _ e)))
  form_one (Of m a) (Of n b) ha hb ta tb e =
      let digits : decimal m ≡ decimal n = append_cancel_right (decimal m) (decimal n) (codes ":") (first_is _ _ _ _ e) in
      let seq : m ≡ n = decimal_injective m n (omega (arith, few, ta.0)) (omega (arith, few, tb.0)) digits in
      let said : a ≡ b = said_one a b ha hb ta.1 tb.1 (rest_is _ _ _ _ e) in cc
