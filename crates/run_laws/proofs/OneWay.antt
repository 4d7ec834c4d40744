-- Where what comes next is one thing, events go on in one way.
use Rattle.std.proofs.Common.{◌≡◌, ◌<◌, ◌≤◌, ℕ, Bool, true, false, List, [], ◌∷◌, ◌++◌, length, Option, Some, None, refl, sym, ap, ◌∙◌, subst, arith}
use Rattle.std.specs.Prelude.{nat_lt}
use Rattle.std.proofs.lemmas.Bool.{ltb-false, ltb-true}
use Rattle.std.proofs.lemmas.Option.{none-some, same_Some}
use Rattle.mj_base.specs.declared.ids.SeqId.{SeqId}
use Rattle.bind_model.specs.Replies.{answer, legal}
use Rattle.bind_model.specs.Wire.{Wire}
use Rattle.bind_model.specs.declared.asked.Asked.{Asked}
use Rattle.bind_model.specs.declared.event.Event.{Event}
use Rattle.bind_model.specs.declared.told.Told.{Told}
use Rattle.script_run.specs.OfScript.{GoesOn, IsPart, Next}

-- an event, by its parts
abbrev event_by : SeqId → Asked → Told → Event
event_by seq asked told = record { seq = seq; asked = asked; told = told }

same_event : (x y : Event) → x.seq ≡ y.seq → x.asked ≡ y.asked → x.told ≡ y.told → x ≡ y
same_event x y seq asked told =
    ap (λ (s : SeqId). event_by s x.asked x.told) seq
    ∙ (ap (λ (a : Asked). event_by y.seq a x.told) asked ∙ ap (λ (t : Told). event_by y.seq y.asked t) told)

-- no event of one of so many sequences is next behind these
abbrev pub IsOver : ℕ → (List Event → Option Next) → List Event → Type 0
IsOver seqs next own = (event : Event) → event.seq.0 < seqs → next own ≡ Some (event.seq, event.asked) → ⊥

-- so it is where there is no next
none_over : (seqs : ℕ) (next : List Event → Option Next) (own : List Event) → next own ≡ None → IsOver seqs next own
none_over seqs next own none event within e = let n : Next = (event.seq, event.asked) in none-some n (sym none ∙ e)

-- the events before others are legal
pub legal_behind : (wire : Wire) (seqs : ℕ) (more past : List Event) → legal wire seqs (more ++ past) → legal wire seqs past
legal_behind wire seqs [] past h = h
legal_behind wire seqs (event ∷ more) past h = legal_behind wire seqs more past h.2

module _ (wire : Wire) (seqs : ℕ) (next : List Event → Option Next) (before : List Event) where
  -- as many events that go on are the same: what is asked is next, and what is told is what those before give
  same_way : (xs ys : List Event) → legal wire seqs (xs ++ before) → legal wire seqs (ys ++ before) → GoesOn next xs → GoesOn next ys
      → length xs ≡ length ys → xs ≡ ys
  same_way [] [] h k g f e = refl
  same_way [] (y ∷ ys) h k g f e = absurd (omega (arith, e))
  same_way (x ∷ xs) [] h k g f e = absurd (omega (arith, e))
  same_way (x ∷ xs) (y ∷ ys) h k g f e =
      let rest : xs ≡ ys = same_way xs ys h.2 k.2 g.1 f.1 (omega (arith, e)) in
      let mine : Next = (x.seq, x.asked) in
      let theirs : Next = (y.seq, y.asked) in
      let one : mine ≡ theirs = same_Some mine theirs (sym g.0 ∙ (ap next rest ∙ f.0)) in
      let told : x.told ≡ y.told =
      h.1
      ∙ (ap (λ (past : List Event). answer wire seqs (past ++ before) x.seq x.asked) rest
      ∙ (ap (λ (n : Next). answer wire seqs (ys ++ before) n.0 n.1) one ∙ sym k.1)) in
      let event : x ≡ y = same_event x y (ap (λ (n : Next). n.0) one) (ap (λ (n : Next). n.1) one) told in
      ap (λ (z : Event). z ∷ xs) event ∙ ap (λ (zs : List Event). y ∷ zs) rest

  -- where the one is over, the other has no more
  no_longer : (xs ys : List Event) → legal wire seqs (xs ++ before) → legal wire seqs (ys ++ before) → GoesOn next xs → GoesOn next ys
      → IsOver seqs next xs → length ys ≤ length xs
  no_longer xs [] h k g f over = omega arith
  no_longer xs (y ∷ ys) h k g f over = go (no_longer xs ys h k.2 g f.1 over) (nat_lt (length ys) (length xs)) refl
    where
      go : length ys ≤ length xs → (b : Bool) → nat_lt (length ys) (length xs) ≡ b → length (y ∷ ys) ≤ length xs
      go most true e = let less : length ys < length xs = ltb-true (length ys) (length xs) e in omega (arith, less)
      go most false e =
          let least : length xs ≤ length ys = ltb-false (length ys) (length xs) e in
          let size : length xs ≡ length ys = omega (arith, most, least) in
          let same : xs ≡ ys = same_way xs ys h k.2 g f.1 size in
          absurd (over y k.0 (ap next same ∙ f.0))

  -- where both are over, they are the same
  pub one_way : (xs ys : List Event) → legal wire seqs (xs ++ before) → legal wire seqs (ys ++ before) → GoesOn next xs → GoesOn next ys
      → IsOver seqs next xs → IsOver seqs next ys → xs ≡ ys
  one_way xs ys h k g f over last =
      let most : length ys ≤ length xs = no_longer xs ys h k g f over in
      let least : length xs ≤ length ys = no_longer ys xs k h f g last in
      same_way xs ys h k g f (omega (arith, most, least))

  -- and so are two histories up to the end of such a part
  pub one_part : (after other : List Event) → legal wire seqs after → legal wire seqs other → IsPart next before after → IsPart next before other
      → after ≡ other
  one_part after other h k a b =
      let own : a.own ≡ b.own =
      one_way a.own b.own (subst (legal wire seqs) a.whole h) (subst (legal wire seqs) b.whole k) a.asks b.asks
      (none_over seqs next a.own a.over) (none_over seqs next b.own b.over) in
      a.whole ∙ (ap (λ (es : List Event). es ++ before) own ∙ sym b.whole)
