-- How the words of a schema are gathered, row by row.
use Rattle.std.proofs.Common.{◌≡◌, ℕ, zero, suc, ◌+◌, ◌<◌, ◌≤◌, List, [], ◌∷◌, ◌++◌, length, drop, get_or, Bool, true, false, cond, refl, sym, ap, ◌∙◌}
use Rattle.std.proofs.Common.{append_assoc, arith, add-one, drop-cons}
use Rattle.std.specs.List.{flat_map}
use Rattle.std.proofs.lemmas.List.{append-nil}
use Rattle.mj_schema.specs.declared.rows.InterfaceRow.{InterfaceRow}
use Rattle.mj_schema.specs.declared.rows.MethodRow.{MethodRow}
use Rattle.wire_model.specs.Expected.{struct_of}
use Rattle.wire_model.specs.declared.target.MessageSide.{MessageSide}
use Rattle.line_parts.specs.Names.{is_word, that_are_words, interfaces_from, message_in, messages_from}
use Rattle.line_parts.specs.declared.names.Entry.{Entry}
use Rattle.line_parts.specs.declared.names.Message.{Message}

kept_of : {A : Type 0} (xs ys : List (Entry A)) → that_are_words (xs ++ ys) ≡ that_are_words xs ++ that_are_words ys
kept_of [] ys = refl
kept_of {A} (x ∷ xs) ys = of (is_word x.text) (kept_of xs ys)
  where
    of : (v : Bool) → that_are_words (xs ++ ys) ≡ that_are_words xs ++ that_are_words ys
        → cond v (x ∷ that_are_words (xs ++ ys)) (that_are_words (xs ++ ys)) ≡ cond v (x ∷ that_are_words xs) (that_are_words xs) ++ that_are_words ys
    of true k = ap (λ (l : List (Entry A)). x ∷ l) k
    of false k = k

row_at : {R : Type 0} (rows : List R) (i : ℕ) (row : R) → i < length rows → row ≡ get_or rows i row → drop i rows ≡ row ∷ drop (i + 1) rows
row_at {R} rows i row lt e =
    let cut : drop i rows ≡ get_or rows i row ∷ drop (i + 1) rows = rw (add-one, drop-cons rows i row) refl in
    cut ∙ ap (λ (r : R). r ∷ drop (i + 1) rows) (sym e)

none_at : {R : Type 0} (rows : List R) (i : ℕ) → length rows ≤ i → drop i rows ≡ []
none_at [] zero le = refl
none_at [] (suc i) le = refl
none_at (r ∷ rs) zero le = absurd (omega (arith, le))
none_at (r ∷ rs) (suc i) le = none_at rs i (omega (arith, le))

-- some words more
regroup : {A : Type 0} (words new : List (Entry A)) (xs ys : List (Entry A)) → new ≡ words ++ that_are_words xs
    → words ++ that_are_words (xs ++ ys) ≡ new ++ that_are_words ys
regroup {A} words new xs ys e =
    ap (λ (l : List (Entry A)). words ++ l) (kept_of xs ys) ∙ sym (append_assoc words (that_are_words xs) (that_are_words ys))
    ∙ ap (λ (l : List (Entry A)). l ++ that_are_words ys) (sym e)

pub interface_on : (rows : List InterfaceRow) (i : ℕ) (row : InterfaceRow) (words new total : List (Entry ℕ)) → i < length rows → row ≡ get_or rows i row
    → new ≡ words ++ that_are_words (record { text = row.name; value = i } ∷ []) → words ++ that_are_words (interfaces_from i (drop i rows)) ≡ total
    → new ++ that_are_words (interfaces_from (i + 1) (drop (i + 1) rows)) ≡ total
interface_on rows i row words new total lt e n so_far =
    let one : Entry ℕ = record { text = row.name; value = i } in
    let next : interfaces_from i (row ∷ drop (i + 1) rows) ≡ one ∷ interfaces_from (i + 1) (drop (i + 1) rows) = rw add-one refl in
    sym (regroup words new (one ∷ []) (interfaces_from (i + 1) (drop (i + 1) rows)) n)
    ∙ ap (λ (l : List (Entry ℕ)). words ++ that_are_words l) (sym next)
    ∙ ap (λ (rs : List InterfaceRow). words ++ that_are_words (interfaces_from i rs)) (sym (row_at rows i row lt e)) ∙ so_far

pub interfaces_end : (rows : List InterfaceRow) (i : ℕ) (words total : List (Entry ℕ)) → length rows ≤ i
    → words ++ that_are_words (interfaces_from i (drop i rows)) ≡ total → words ≡ total
interfaces_end rows i words total le so_far =
    sym (append-nil words) ∙ ap (λ (rs : List InterfaceRow). words ++ that_are_words (interfaces_from i rs)) (sym (none_at rows i le)) ∙ so_far

module _ (side : MessageSide) where
  -- the message of a method, where it has the side
  abbrev pub of_method : ℕ → List ℕ → MethodRow → List (Entry Message)
  of_method n name method = message_in side n name method (struct_of side method)

  pub method_on : (n : ℕ) (name : List ℕ) (methods : List MethodRow) (i : ℕ) (method : MethodRow) (words new total : List (Entry Message)) → i < length methods
      → method ≡ get_or methods i method → new ≡ words ++ that_are_words (of_method n name method)
      → words ++ that_are_words (flat_map (of_method n name) (drop i methods)) ≡ total
      → new ++ that_are_words (flat_map (of_method n name) (drop (i + 1) methods)) ≡ total
  method_on n name methods i method words new total lt e w so_far =
      sym (regroup words new (of_method n name method) (flat_map (of_method n name) (drop (i + 1) methods)) w)
      ∙ ap (λ (ms : List MethodRow). words ++ that_are_words (flat_map (of_method n name) ms)) (sym (row_at methods i method lt e)) ∙ so_far

  pub methods_end : (n : ℕ) (name : List ℕ) (methods : List MethodRow) (i : ℕ) (words total : List (Entry Message)) → length methods ≤ i
      → words ++ that_are_words (flat_map (of_method n name) (drop i methods)) ≡ total → words ≡ total
  methods_end n name methods i words total le so_far =
      sym (append-nil words) ∙ ap (λ (ms : List MethodRow). words ++ that_are_words (flat_map (of_method n name) ms)) (sym (none_at methods i le)) ∙ so_far

  pub messages_on : (rows : List InterfaceRow) (i : ℕ) (row : InterfaceRow) (words new total : List (Entry Message)) → i < length rows
      → row ≡ get_or rows i row → new ≡ words ++ that_are_words (flat_map (of_method i row.name) row.methods)
      → words ++ that_are_words (messages_from side i (drop i rows)) ≡ total → new ++ that_are_words (messages_from side (i + 1) (drop (i + 1) rows)) ≡ total
  messages_on rows i row words new total lt e w so_far =
      let here = flat_map (of_method i row.name) row.methods in
      let next : messages_from side i (row ∷ drop (i + 1) rows) ≡ here ++ messages_from side (i + 1) (drop (i + 1) rows) = rw add-one refl in
      sym (regroup words new here (messages_from side (i + 1) (drop (i + 1) rows)) w)
      ∙ ap (λ (l : List (Entry Message)). words ++ that_are_words l) (sym next)
      ∙ ap (λ (rs : List InterfaceRow). words ++ that_are_words (messages_from side i rs)) (sym (row_at rows i row lt e)) ∙ so_far

  pub messages_end : (rows : List InterfaceRow) (i : ℕ) (words total : List (Entry Message)) → length rows ≤ i
      → words ++ that_are_words (messages_from side i (drop i rows)) ≡ total → words ≡ total
  messages_end rows i words total le so_far =
      sym (append-nil words) ∙ ap (λ (rs : List InterfaceRow). words ++ that_are_words (messages_from side i rs)) (sym (none_at rows i le)) ∙ so_far
