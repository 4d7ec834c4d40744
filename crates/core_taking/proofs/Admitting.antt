-- One id more that comes with a message.
use Rattle.std.proofs.Common.{◌≡◌, ◌<◌, ◌≤◌, ℕ, zero, suc, Bool, true, false, List, [], ◌∷◌, ◌++◌, length, take, get_or, refl, sym, ap, ◌∙◌, arith, subst}
use Rattle.std.specs.Prelude.{if◌then◌else◌, ◌==◌, ◌||◌, ◌+◌, map, filter, slice_get, Option, Some, None, is_some}
use Rattle.std.specs.Option.{option_map}
use Rattle.std.proofs.lemmas.Bool.{false_from_ne_true}
use Rattle.std.proofs.lemmas.List.{append-nil, take_more}
use Rattle.handle_table.proofs.ThingsLemmas.{not_left, not_right}
use Rattle.wire_encoder.specs.declared.endpoint.WantedEndpoint.{WantedEndpoint}
use Rattle.bind_model.specs.Laws.{has_number}
use Rattle.bind_model.specs.Machine.{Endpoints, Entry, closed_ids, endpoint_named, entries_of, entry_in, first_strange, is_closed, is_own, is_strange}
use Rattle.bind_model.specs.Tables.{ids_of_entries}
use Rattle.bind_model.specs.Wire.{Named}
use Rattle.bind_model.specs.declared.endpoint.Endpoint.{Endpoint}
use Rattle.bind_model.proofs.Entering.{entry_there}
use Rattle.bind_model.proofs.Growing.{behind, entries_more, strange_grown, strange_later, with_entry}
use Rattle.endpoint_router.specs.Agreement.{entered_row}
use Rattle.endpoint_router.specs.Rows.{Contents, RowSeen, endpoints_of, row_at, row_of}
use Rattle.endpoint_router.proofs.Stepping.{last_enters}
use Rattle.core_taking.specs.declared.admit.Admitted.{Admitted}
use Rattle.core_taking.specs.Admits.{Admits, AreSlots, Gains, IsAdmitted, by_slot, first_or}

-- ## Lists with one more

closed_more : (es : List Entry) (e : Entry) → closed_ids (es ++ e ∷ []) ≡ closed_ids es ++ (if is_closed e.endpoint then e.id ∷ [] else [])
closed_more [] e = go (is_closed e.endpoint)
  where
    go : (b : Bool) → map (λ (d : Entry). d.id) (if b then e ∷ [] else []) ≡ (if b then e.id ∷ [] else [])
    go true = refl
    go false = refl
closed_more (d ∷ es) e = go (is_closed d.endpoint) (closed_more es e)
  where
    go : (b : Bool) → closed_ids (es ++ e ∷ []) ≡ closed_ids es ++ (if is_closed e.endpoint then e.id ∷ [] else [])
        → map (λ (d : Entry). d.id) (if b then d ∷ filter (λ (d : Entry). is_closed d.endpoint) (es ++ e ∷ [])
        else filter (λ (d : Entry). is_closed d.endpoint) (es ++ e ∷ []))
        ≡ map (λ (d : Entry). d.id) (if b then d ∷ filter (λ (d : Entry). is_closed d.endpoint) es else filter (λ (d : Entry). is_closed d.endpoint) es)
        ++ (if is_closed e.endpoint then e.id ∷ [] else [])
    go true rest = ap (λ (ids : List ℕ). d.id ∷ ids) rest
    go false rest = rest

-- a strange one stays the first
strange_stays : (endpoints : Endpoints) (earlier done rest : List ℕ) (x : ℕ) → first_strange endpoints earlier done ≡ Some x
    → first_strange endpoints earlier (done ++ rest) ≡ Some x
strange_stays endpoints earlier [] rest x h = absurd cc
strange_stays endpoints earlier (id ∷ done) rest x h = go (is_strange endpoints earlier id) (strange_stays endpoints (id ∷ earlier) done rest x) h
  where
    go : (b : Bool) → (first_strange endpoints (id ∷ earlier) done ≡ Some x → first_strange endpoints (id ∷ earlier) (done ++ rest) ≡ Some x)
        → (if b then Some id else first_strange endpoints (id ∷ earlier) done) ≡ Some x
        → (if b then Some id else first_strange endpoints (id ∷ earlier) (done ++ rest)) ≡ Some x
    go true later h = h
    go false later h = later h

-- the endpoints of rows that entered
endpoint_entered : (es : List Entry) (n : ℕ) (o : Option RowSeen)
    → option_map (λ (row : RowSeen). row.endpoint) (entered_row es n o) ≡ entry_in es n (option_map (λ (row : RowSeen). row.endpoint) o)
endpoint_entered [] n o = refl
endpoint_entered (e ∷ es) n o = go (e.id == n) (endpoint_entered es n o)
  where
    go : (b : Bool) → option_map (λ (row : RowSeen). row.endpoint) (entered_row es n o) ≡ entry_in es n (option_map (λ (row : RowSeen). row.endpoint) o)
        → option_map (λ (row : RowSeen). row.endpoint) (if b then Some (row_of e.endpoint) else entered_row es n o)
        ≡ (if b then Some e.endpoint else entry_in es n (option_map (λ (row : RowSeen). row.endpoint) o))
    go true rest = refl
    go false rest = rest

either_there : (es : List Entry) (n : ℕ) (o : Option Endpoint) → is_some (entry_in es n o) ≡ (is_some o || is_some (entry_in es n None))
either_there [] n o = plain (is_some o)
  where
    plain : (b : Bool) → b ≡ (b || false)
    plain true = refl
    plain false = refl
either_there (e ∷ es) n o = go (e.id == n) (either_there es n o)
  where
    all : (b : Bool) → true ≡ (b || true)
    all true = refl
    all false = refl

    go : (b : Bool) → is_some (entry_in es n o) ≡ (is_some o || is_some (entry_in es n None))
        → is_some (if b then Some e.endpoint else entry_in es n o) ≡ (is_some o || is_some (if b then Some e.endpoint else entry_in es n None))
    go true rest = all (is_some o)
    go false rest = rest

-- what wasn't seen may be entered among what was
pub unseen_row : (seen : Contents) (id : ℕ) (a b : Bool) → (a || is_some (endpoints_of seen id) || b) ≡ false → row_at seen id ≡ None
unseen_row seen id a b h =
    go (row_at seen id) (not_right a (is_some (endpoints_of seen id)) (not_left (a || is_some (endpoints_of seen id)) b h))
  where
    go : (o : Option RowSeen) → is_some (option_map (λ (row : RowSeen). row.endpoint) o) ≡ false → o ≡ None
    go None e = refl
    go (Some row) e = absurd (let f : true ≡ false = e in cc)

-- ## One id more

module _ (endpoints : Endpoints) (named : List Named) (done : List ℕ) (seen : Contents) (a : Admitted) (id : ℕ)
    (now : IsAdmitted endpoints named done seen a) where
  abbrev entries : List Entry
  entries = entries_of endpoints named 0 [] done

  seen_is : endpoints_of seen id ≡ entry_in entries id None
  seen_is = ap (λ (o : Option RowSeen). option_map (λ (row : RowSeen). row.endpoint) o) (now.rows id) ∙ endpoint_entered entries id None

  -- whether the code finds it strange
  strange_is : is_strange endpoints (behind done []) id ≡ (is_some (endpoints id) || is_some (endpoints_of seen id) || is_own endpoints id)
  strange_is =
      strange_grown endpoints named done id
      ∙ ap (λ (b : Bool). b || is_own endpoints id)
      (either_there entries id (endpoints id) ∙ ap (λ (o : Option Endpoint). is_some (endpoints id) || is_some o) (sym seen_is))

  more : (b : Bool) → is_strange endpoints (behind done []) id ≡ b
      → entries_of endpoints named 0 [] (done ++ id ∷ []) ≡ entries ++ with_entry endpoints named b id (0 + length done) []
  more b s = entries_more endpoints named 0 [] done id
      ∙ ap (λ (c : Bool). entries ++ with_entry endpoints named c id (0 + length done) []) s

  first_now : (b : Bool) → is_strange endpoints (behind done []) id ≡ b → (o : Option ℕ) → first_strange endpoints [] done ≡ o
      → first_strange endpoints [] (done ++ id ∷ []) ≡ elim o [ Some x ↦ Some x | None ↦ if b then Some id else None ]
  first_now b s (Some x) h = strange_stays endpoints [] done (id ∷ []) x h
  first_now b s None h = strange_later endpoints [] done (id ∷ []) h ∙ ap (λ (c : Bool). if c then Some id else None) s

  -- a strange one
  pub strange_more : (is_some (endpoints id) || is_some (endpoints_of seen id) || is_own endpoints id) ≡ true → (after : Admitted)
      → after.strange ≡ first_or a.strange id → after.entries.items ≡ a.entries.items → after.closed.items ≡ a.closed.items
      → IsAdmitted endpoints named (done ++ id ∷ []) seen after
  strange_more s after e1 e2 e3 =
      let is : is_strange endpoints (behind done []) id ≡ true = strange_is ∙ s in
      let same : entries_of endpoints named 0 [] (done ++ id ∷ []) ≡ entries = more true is ∙ append-nil entries in
      record {
        so_far = record {
          strange = e1 ∙ (ap (λ (o : Option ℕ). first_or o id) now.so_far.strange
              ∙ (alike (first_strange endpoints [] done) ∙ sym (first_now true is (first_strange endpoints [] done) refl)));
          entries = e2 ∙ (now.so_far.entries ∙ sym same);
          closed = e3 ∙ (now.so_far.closed ∙ ap (λ (es : List Entry). closed_ids es) (sym same));
        };
        rows = λ n. now.rows n ∙ ap (λ (es : List Entry). entered_row es n None) (sym same);
      }
    where
      alike : (o : Option ℕ) → first_or o id ≡ elim o [ Some x ↦ Some x | None ↦ Some id ]
      alike None = refl
      alike (Some x) = refl

  -- another one
  module _ (s : (is_some (endpoints id) || is_some (endpoints_of seen id) || is_own endpoints id) ≡ false) where
    abbrev entry : Entry
    entry = record { id = id; endpoint = endpoint_named named (length done) }

    is : is_strange endpoints (behind done []) id ≡ false
    is = strange_is ∙ s

    longer : entries_of endpoints named 0 [] (done ++ id ∷ []) ≡ entries ++ entry ∷ []
    longer = more false is ∙ ap (λ (n : ℕ). entries ++ with_entry endpoints named false id n []) at
      where
        at : 0 + length done ≡ length done
        at = omega arith

    apart : has_number (ids_of_entries entries) id ≡ false
    apart = false_from_ne_true (has_number (ids_of_entries entries) id) (λ e.
        let there : is_some (entry_in entries id None) ≡ true = entry_there entries id None e in
        let none : is_some (endpoints_of seen id) ≡ false = not_right (is_some (endpoints id)) (is_some (endpoints_of seen id))
        (not_left (is_some (endpoints id) || is_some (endpoints_of seen id)) (is_own endpoints id) s) in
        let f : false ≡ true = sym none ∙ (ap (λ (o : Option Endpoint). is_some o) seen_is ∙ there) in
        absurd cc)

    pub known_more : (endpoint : Endpoint) → endpoint ≡ endpoint_named named (length done) → (next : Contents) (after : Admitted)
        → ((n : ℕ) → row_at next n ≡ (if id == n then Some (row_of endpoint) else row_at seen n))
        → Gains id endpoint a after
        → IsAdmitted endpoints named (done ++ id ∷ []) next after
    known_more endpoint e next after rows g = record {
      so_far = record {
        strange = g.strange ∙ (now.so_far.strange
            ∙ (keep (first_strange endpoints [] done) ∙ sym (first_now false is (first_strange endpoints [] done) refl)));
        entries = g.entries ∙ (ap (λ (es : List Entry). es ++ record { id = id; endpoint = endpoint } ∷ []) now.so_far.entries
            ∙ (ap (λ (r : Endpoint). entries ++ record { id = id; endpoint = r } ∷ []) e ∙ sym longer));
        closed = g.closed ∙ (ap (λ (ids : List ℕ). ids ++ (if is_closed endpoint then id ∷ [] else [])) now.so_far.closed
            ∙ (ap (λ (r : Endpoint). closed_ids entries ++ (if is_closed r then id ∷ [] else [])) e
            ∙ (sym (closed_more entries entry) ∙ ap (λ (es : List Entry). closed_ids es) (sym longer))));
      };
      rows = λ n. rows n
          ∙ (ap (λ (o : Option RowSeen). if id == n then Some (row_of endpoint) else o) (now.rows n)
          ∙ (ap (λ (r : Endpoint). if id == n then Some (row_of r) else entered_row entries n None) e
          ∙ (sym (last_enters entries entry n None apart) ∙ ap (λ (es : List Entry). entered_row es n None) (sym longer))));
    }
      where
        keep : (o : Option ℕ) → o ≡ elim o [ Some x ↦ Some x | None ↦ None ]
        keep None = refl
        keep (Some x) = refl

-- ## All

-- those up to the next one
pub next_admitted : (endpoints : Endpoints) (named : List Named) (slots : List (Option WantedEndpoint)) (ids : List ℕ) (k : ℕ) (endpoint : Endpoint)
    (seen next : Contents) (a after : Admitted) → k < length ids → AreSlots named (length ids) slots → endpoint ≡ by_slot (slice_get slots k)
    → ((done : List ℕ) → endpoint ≡ endpoint_named named (length done) → IsAdmitted endpoints named done seen a
    → IsAdmitted endpoints named (done ++ get_or ids k 0 ∷ []) next after)
    → IsAdmitted endpoints named (take k ids) seen a → IsAdmitted endpoints named (take (k + 1) ids) next after
next_admitted endpoints named slots ids k endpoint seen next a after lt slot e step now =
    subst (λ (js : List ℕ). IsAdmitted endpoints named js next after) (sym (take_more ids k 0 lt))
    (step (take k ids) (e ∙ (sym (slot k lt) ∙ ap (endpoint_named named) (sym (length-take ids k lt)))) now)
  where
    length-take : (xs : List ℕ) (n : ℕ) → n < length xs → length (take n xs) ≡ n
    length-take xs zero h = refl
    length-take [] (suc n) h = absurd (omega arith)
    length-take (x ∷ xs) (suc n) h = ap suc (length-take xs n (omega arith))

pub all_admitted : (endpoints : Endpoints) (named : List Named) (ids : List ℕ) (k : ℕ) (seen : Contents) (a : Admitted) → length ids ≤ k
    → IsAdmitted endpoints named (take k ids) seen a → Admits endpoints named ids a
all_admitted endpoints named ids k seen a le now = subst (λ (js : List ℕ). Admits endpoints named js a) (take-all ids k le) now.so_far
  where
    take-all : (xs : List ℕ) (n : ℕ) → length xs ≤ n → take n xs ≡ xs
    take-all [] zero h = refl
    take-all [] (suc n) h = refl
    take-all (x ∷ xs) zero h = absurd (omega arith)
    take-all (x ∷ xs) (suc n) h = ap (λ (ys : List ℕ). x ∷ ys) (take-all xs n (omega arith))
