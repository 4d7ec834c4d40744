-- What the making of a pipe or a token makes of pipes, places and endpoints.
use Rattle.std.proofs.Common.{◌≡◌, ℕ, ◌+◌, Bool, true, false, List, [], ◌∷◌, refl, sym, ap, ◌∙◌, arith, subst}
use Rattle.std.specs.Prelude.{if◌then◌else◌, ◌||◌, ◌&&◌, not, ◌==◌, is_some, Option, Some}
use Rattle.std.proofs.lemmas.List.{length-append}
use Rattle.std.proofs.lemmas.List.Sums.{sum_by-append}
use Rattle.std.proofs.lemmas.Bool.{eqb-true, eq-eqb}
use Rattle.std.proofs.lemmas.Bool.Decides.{nat_tests}
use Rattle.mj_base.specs.declared.ids.EndId.{EndId}
use Rattle.mj_base.specs.declared.ids.SeqId.{SeqId}
use Rattle.handle_table.specs.Things.{has, same, same_end, is_end, seq_of}
use Rattle.handle_table.specs.Places.{place_of, ends_made, tokens_made}
use Rattle.handle_table.specs.declared.places.Place.{Place}
use Rattle.handle_table.specs.declared.places.Place.TheVariants as places
use Rattle.handle_table.specs.declared.thing.Thing.{Thing}
use Rattle.handle_table.specs.declared.thing.Thing.TheVariants.{End, Token}
use Rattle.handle_table.proofs.ThingsLemmas.{same-true, same_end-true}
use Rattle.message_pipe.specs.Contents.{Contents, MakesPipe, MakesToken, MakesTokens}
use Rattle.message_pipe.specs.Ends.{end_of, open_end}
use Rattle.bind_model.specs.declared.asked.Asked.{Asked}
use Rattle.bind_model.specs.declared.told.Told.TheVariants.{Made}
use Rattle.bind_model.specs.declared.event.Event.{Event}
use Rattle.bind_model.specs.Wire.{Wire}
use Rattle.bind_model.specs.Machine.{made, peer, gone, is_gone, out, unread}
use Rattle.bind_model.specs.Replies.{serials, tokens, joined, data_made}
use Rattle.bind_model.proofs.Kept.{Kept}
use Rattle.bind_model.proofs.Moving.{new_end, new_token}
use Rattle.core_state.specs.Routers.{Routers}
use Rattle.core_state.specs.Agreement.{Agrees, end_in, is_out, is_shut}
use Rattle.core_state.proofs.After.{made_after, out_after, gone_still, unread_still, end_after, end_still}
use Rattle.core_state.proofs.Facts.{not_gone, unmade_unread}
use Rattle.core_state.proofs.Steady.{steady}

sym_if : (s t : ℕ) → ◌≡◌ {A = ℕ} (if s == t then 1 else 0) (if t == s then 1 else 0)
sym_if s t = go (s == t) (t == s) refl refl
  where
    go : (b c : Bool) → (s == t) ≡ b → (t == s) ≡ c → ◌≡◌ {A = ℕ} (if b then 1 else 0) (if c then 1 else 0)
    go true true e f = refl
    go false false e f = refl
    go true false e f = absurd (let g : (t == s) ≡ true = eq-eqb t s (sym (eqb-true s t e)) in cc)
    go false true e f = absurd (let g : (s == t) ≡ true = eq-eqb s t (sym (eqb-true t s f)) in cc)

abbrev end_named : ℕ → ℕ → EndId
end_named s n = record { seq = s; serial = n }

or_nothing : (b : Bool) → (b || false) ≡ b
or_nothing true = refl
or_nothing false = refl

-- a thing that is new is out, and others are as they were
placed : (new : Bool) (o : Option Place) (before : Bool) → is_out o ≡ before → is_out (if new then Some places.Out else o) ≡ ((before && true) || new)
placed true o true e = refl
placed true o false e = refl
placed false o true e = e
placed false o false e = e

there_now : (new : Bool) (o : Option Place) (before : Bool) → is_some o ≡ before → is_some (if new then Some places.Out else o) ≡ (before || new)
there_now true o true e = refl
there_now true o false e = refl
there_now false o true e = e
there_now false o false e = e

shut_still : (new : Bool) (o : Option Place) (before : Bool) → is_shut o ≡ before → (new ≡ true → before ≡ false)
    → is_shut (if new then Some places.Out else o) ≡ before
shut_still true o b e f = sym (f refl)
shut_still false o b e f = e

module _ (wire : Wire) (seqs : ℕ) (past : List Event) (k : Kept wire past) (seq : SeqId) (asked : Asked) (old new : Contents)
    (endpoints : Routers) (agrees : Agrees wire past old endpoints) where
  -- ## A pipe

  module _ (t : SeqId) (a b : EndId) (m : MakesPipe seq.0 t.0 a b old new) where
    abbrev pub made_pipe : Event
    made_pipe = record { seq = seq; asked = asked; told = Made (End a ∷ End b ∷ []) }

    one : a ≡ end_named seq.0 (serials past seq.0)
    one =
        let e : End a ≡ End (end_named seq.0 (ends_made old.table seq.0)) = m.table.one in
        let f : a ≡ end_named seq.0 (ends_made old.table seq.0) = cc in
        f ∙ ap (λ n. end_named seq.0 n) (agrees.serials seq.0)

    other : b ≡ end_named t.0 (serials past t.0 + (if t.0 == seq.0 then 1 else 0))
    other =
        let e : End b ≡ End (end_named t.0 (ends_made old.table t.0 + (if seq.0 == t.0 then 1 else 0))) = m.table.other in
        let f : b ≡ end_named t.0 (ends_made old.table t.0 + (if seq.0 == t.0 then 1 else 0)) = cc in
        f ∙ (ap (λ n. end_named t.0 (n + (if seq.0 == t.0 then 1 else 0))) (agrees.serials t.0)
        ∙ ap (λ n. end_named t.0 (serials past t.0 + n)) (sym_if seq.0 t.0))

    -- what is told is what was made
    pub pipe_told : Made (End a ∷ End b ∷ []) ≡ joined past seq.0 t.0
    pipe_told = ap (λ x. Made (End x ∷ End b ∷ [])) one ∙ ap (λ y. Made (End (record { seq = seq.0; serial = serials past seq.0 }) ∷ End y ∷ [])) other

    new_one : has (made past) (End a) ≡ false
    new_one = new_end wire seqs past seq k a (rw one (omega arith))

    new_other : has (made past) (End b) ≡ false
    new_other = new_end wire seqs past seq k b (rw other (omega arith))

    apart : same_end a b ≡ false
    apart = rw (one, other) (go (seq.0 == t.0) refl)
      where
        go : (c : Bool) → (seq.0 == t.0) ≡ c → (c && (serials past seq.0 == (serials past t.0 + (if t.0 == seq.0 then 1 else 0)))) ≡ false
        go true e = let s : seq.0 ≡ t.0 = eqb-true seq.0 t.0 e in let n : serials past seq.0
            ≡ serials past t.0 = ap (serials past) s in grind (arith, nat_tests)
        go false e = refl

    now_gone : (x : EndId) → is_gone (made_pipe ∷ past) x ≡ is_gone past x
    now_gone x = ap (λ gs. has gs (End x)) (gone_still wire made_pipe past refl)

    now_unread : (x : EndId) → unread wire (made_pipe ∷ past) x ≡ unread wire past x
    now_unread x = unread_still wire made_pipe past x refl refl refl

    at_new : (x y : EndId) → has (made past) (End x) ≡ false → has (made (made_pipe ∷ past)) (End x) ≡ true → peer (made_pipe ∷ past) x ≡ y
        → Some (open_end y) ≡ end_in wire (made_pipe ∷ past) x
    at_new x y n h p = sym (end_after wire made_pipe past x true y false [] h p (now_gone x ∙ not_gone wire past k (End x) n)
        (now_unread x ∙ unmade_unread wire past k x n))

    made_now : (x : EndId) → has (made (made_pipe ∷ past)) (End x) ≡ (has (made past) (End x) || (same_end a x || (same_end b x || false)))
    made_now x = made_after wire made_pipe past (End x)

    or_true : (c : Bool) → (c || true) ≡ true
    or_true true = refl
    or_true false = refl

    ends_now : (x : EndId) → end_of new.ends x ≡ end_in wire (made_pipe ∷ past) x
    ends_now x = m.ends x ∙ go (same_end b x) (same_end a x) refl refl
      where
        go : (c d : Bool) → same_end b x ≡ c → same_end a x ≡ d
            → (if c then Some (open_end a) else (if d then Some (open_end b) else end_of old.ends x)) ≡ end_in wire (made_pipe ∷ past) x
        go true d e f =
            let s : b ≡ x = same_end-true b x e in
            let h : has (made (made_pipe ∷ past)) (End x) ≡ true = made_now x
            ∙ rw (e) (ap (λ c. has (made past) (End x) || c) (or_true (same_end a x)) ∙ or_true (has (made past) (End x))) in
            let na : same_end a x ≡ false = subst (λ y. same_end a y ≡ false) s apart in
            let p : peer (made_pipe ∷ past) x ≡ a = rw (na, e) refl in
            at_new x a (subst (λ y. has (made past) (End y) ≡ false) s new_other) h p
        go false true e f =
            let s : a ≡ x = same_end-true a x f in
            let h : has (made (made_pipe ∷ past)) (End x) ≡ true = made_now x ∙ rw (f) (or_true (has (made past) (End x))) in
            let p : peer (made_pipe ∷ past) x ≡ b = rw f refl in
            at_new x b (subst (λ y. has (made past) (End y) ≡ false) s new_one) h p
        go false false e f =
            let h : has (made (made_pipe ∷ past)) (End x) ≡ has (made past) (End x) = made_now x ∙ rw (e, f) (or_nothing (has (made past) (End x))) in
            let p : peer (made_pipe ∷ past) x ≡ peer past x = rw (e, f) refl in
            agrees.ends x ∙ sym (end_after wire made_pipe past x (has (made past) (End x)) (peer past x) (is_gone past x) (unread wire past x) h p
            (now_gone x) (now_unread x))

    not_shut : (z : Thing) → (same (End a) z || same (End b) z) ≡ true → has (gone past) z ≡ false
    not_shut z h = go (same (End a) z) (same (End b) z) refl refl h
      where
        go : (c d : Bool) → same (End a) z ≡ c → same (End b) z ≡ d → (c || d) ≡ true → has (gone past) z ≡ false
        go true d e f h = subst (λ y. has (gone past) y ≡ false) (same-true (End a) z e) (not_gone wire past k (End a) new_one)
        go false true e f h = subst (λ y. has (gone past) y ≡ false) (same-true (End b) z f) (not_gone wire past k (End b) new_other)
        go false false e f h = absurd cc

    regroup : (x p q : Bool) → (x || (p || (q || false))) ≡ (x || (p || q))
    regroup x p q = ap (λ r. x || (p || r)) (or_nothing q)

    pub pipe_agrees : Agrees wire (made_pipe ∷ past) new endpoints
    pipe_agrees = record {
      ends = ends_now;
      outs = λ z. ap is_out (m.table.places z) ∙ (placed (same (End a) z || same (End b) z) (place_of old.table z) (has (out past) z) (agrees.outs z)
          ∙ sym (out_after wire made_pipe past z ∙ regroup (has (out past) z && true) (same (End a) z) (same (End b) z)));
      there = λ z. ap (λ (o : Option Place). is_some o) (m.table.places z)
          ∙ (there_now (same (End a) z || same (End b) z) (place_of old.table z) (has (made past) z) (agrees.there z)
          ∙ sym (made_after wire made_pipe past z ∙ regroup (has (made past) z) (same (End a) z) (same (End b) z)));
      shuts = λ z. ap is_shut (m.table.places z) ∙ (shut_still (same (End a) z || same (End b) z) (place_of old.table z) (has (gone past) z) (agrees.shuts z)
          (not_shut z) ∙ sym (ap (λ gs. has gs z) (gone_still wire made_pipe past refl)));
      made = m.made ∙ (ap (λ n. n + 2) agrees.made ∙ sym (length-append (made past) (End a ∷ End b ∷ [])));
      serials = λ s. m.table.ends s ∙ counted s;
      tokens = λ s. m.table.tokens s ∙ (agrees.tokens s ∙ none s);
      routers = steady wire made_pipe past
          (record { draws = λ x n. refl; answers = λ x n. refl; associates = λ x. refl; endpoints = λ x n. refl }) endpoints agrees.routers;
    }
      where
        counted : (s : ℕ) → ends_made old.table s + ((if seq.0 == s then 1 else 0) + (if t.0 == s then 1 else 0)) ≡ serials (made_pipe ∷ past) s
        counted s =
            let sum = sum_by-append (λ y. if is_end y && (seq_of y == s) then 1 else 0) (made past) (End a ∷ End b ∷ []) in
            let p : a.seq ≡ seq.0 = ap (λ (e : EndId). e.seq) one in
            let q : b.seq ≡ t.0 = ap (λ (e : EndId). e.seq) other in
            rw (agrees.serials s, ← p, ← q) (omega (arith, sum))

        none : (s : ℕ) → tokens past s ≡ tokens (made_pipe ∷ past) s
        none s =
            let sum = sum_by-append (λ y. if not (is_end y) && (seq_of y == s) then 1 else 0) (made past) (End a ∷ End b ∷ []) in
            omega (arith, sum)

  -- ## A token

  module _ (z : Thing) (m : MakesToken seq.0 z old new) where
    abbrev pub made_token : Event
    made_token = record { seq = seq; asked = asked; told = Made (z ∷ []) }

    next : z ≡ Token (record { seq = seq.0; serial = tokens past seq.0 })
    next = m.table.next ∙ rw (agrees.tokens seq.0) refl

    -- what is told is what was made
    pub token_told : Made (z ∷ []) ≡ Made (Token (record { seq = seq.0; serial = tokens past seq.0 }) ∷ [])
    token_told = ap (λ y. Made (y ∷ [])) next

    new_here : has (made past) z ≡ false
    new_here = rw next (new_token wire seqs past seq k (record { seq = seq.0; serial = tokens past seq.0 }) (omega arith))

    not_end : (x : EndId) → same z (End x) ≡ false
    not_end x = rw next refl

    alone : (x p : Bool) → (x || (p || false)) ≡ (x || p)
    alone x p = ap (λ r. x || r) (or_nothing p)

    same_peer : (x : EndId) → peer (made_token ∷ past) x ≡ peer past x
    same_peer x = rw next refl

    ends_still : (x : EndId) → end_in wire (made_token ∷ past) x ≡ end_in wire past x
    ends_still x = end_still wire made_token past x (made_after wire made_token past (End x)
        ∙ rw (not_end x) (or_nothing (has (made past) (End x)))) refl refl refl (same_peer x)

    token_shut : (y : Thing) → same z y ≡ true → has (gone past) y ≡ false
    token_shut y e = subst (λ w. has (gone past) w ≡ false) (same-true z y e) (not_gone wire past k z new_here)

    pub token_agrees : Agrees wire (made_token ∷ past) new endpoints
    token_agrees = record {
      ends = λ x. m.ends x ∙ (agrees.ends x ∙ sym (ends_still x));
      outs = λ y. ap is_out (m.table.places y) ∙ (placed (same z y) (place_of old.table y) (has (out past) y) (agrees.outs y)
          ∙ sym (out_after wire made_token past y ∙ alone (has (out past) y && true) (same z y)));
      there = λ y. ap (λ (o : Option Place). is_some o) (m.table.places y)
          ∙ (there_now (same z y) (place_of old.table y) (has (made past) y) (agrees.there y)
          ∙ sym (made_after wire made_token past y ∙ alone (has (made past) y) (same z y)));
      shuts = λ y. ap is_shut (m.table.places y) ∙ (shut_still (same z y) (place_of old.table y) (has (gone past) y) (agrees.shuts y) (token_shut y)
          ∙ sym (ap (λ gs. has gs y) (gone_still wire made_token past refl)));
      made = m.made ∙ (ap (λ n. n + 1) agrees.made ∙ sym (length-append (made past) (z ∷ [])));
      serials = λ s. m.table.ends s ∙ (agrees.serials s ∙ none s);
      tokens = λ s. m.table.tokens s ∙ counted s;
      routers = steady wire made_token past
          (record { draws = λ x n. refl; answers = λ x n. refl; associates = λ x. refl; endpoints = λ x n. refl }) endpoints agrees.routers;
    }
      where
        none : (s : ℕ) → serials past s ≡ serials (made_token ∷ past) s
        none s =
            let sum = sum_by-append (λ y. if is_end y && (seq_of y == s) then 1 else 0) (made past) (z ∷ []) in
            let e : (is_end z && (seq_of z == s)) ≡ false = rw next refl in
            sym (sum ∙ rw e (omega arith))

        counted : (s : ℕ) → tokens_made old.table s + (if seq.0 == s then 1 else 0) ≡ tokens (made_token ∷ past) s
        counted s =
            let sum = sum_by-append (λ y. if not (is_end y) && (seq_of y == s) then 1 else 0) (made past) (z ∷ []) in
            let e : (not (is_end z) && (seq_of z == s)) ≡ (seq.0 == s) = rw next refl in
            ap (λ n. n + (if seq.0 == s then 1 else 0)) (agrees.tokens s) ∙ sym (sum ∙ rw e (omega arith))

  -- ## The two tokens of a data pipe

  module _ (y z : Thing) (m : MakesTokens seq.0 y z old new) where
    abbrev pub made_two : Event
    made_two = record { seq = seq; asked = asked; told = Made (y ∷ z ∷ []) }

    pub first_next : y ≡ Token (record { seq = seq.0; serial = tokens past seq.0 })
    first_next = m.table.one ∙ rw (agrees.tokens seq.0) refl

    pub second_next : z ≡ Token (record { seq = seq.0; serial = tokens past seq.0 + 1 })
    second_next = m.table.other ∙ rw (agrees.tokens seq.0) refl

    -- what is told is what was made
    pub two_told : Made (y ∷ z ∷ []) ≡ data_made past seq.0
    two_told =
        ap (λ x. Made (x ∷ z ∷ [])) first_next
        ∙ ap (λ x. Made (Token (record { seq = seq.0; serial = tokens past seq.0 }) ∷ x ∷ [])) second_next

    pub first_new : has (made past) y ≡ false
    first_new = rw first_next (new_token wire seqs past seq k (record { seq = seq.0; serial = tokens past seq.0 }) (omega arith))

    pub second_new : has (made past) z ≡ false
    second_new = rw second_next (new_token wire seqs past seq k (record { seq = seq.0; serial = tokens past seq.0 + 1 }) (omega arith))

    no_first : (x : EndId) → same y (End x) ≡ false
    no_first x = rw first_next refl

    no_second : (x : EndId) → same z (End x) ≡ false
    no_second x = rw second_next refl

    peer_two : (x : EndId) → peer (made_two ∷ past) x ≡ peer past x
    peer_two x = rw first_next refl

    ends_two : (x : EndId) → end_in wire (made_two ∷ past) x ≡ end_in wire past x
    ends_two x = end_still wire made_two past x (made_after wire made_two past (End x)
        ∙ rw (no_first x, no_second x) (or_nothing (has (made past) (End x)))) refl refl refl (peer_two x)

    shut_two : (x : Thing) → (same y x || same z x) ≡ true → has (gone past) x ≡ false
    shut_two x h = go (same y x) (same z x) refl refl h
      where
        go : (c d : Bool) → same y x ≡ c → same z x ≡ d → (c || d) ≡ true → has (gone past) x ≡ false
        go true d e f h = subst (λ w. has (gone past) w ≡ false) (same-true y x e) (not_gone wire past k y first_new)
        go false true e f h = subst (λ w. has (gone past) w ≡ false) (same-true z x f) (not_gone wire past k z second_new)
        go false false e f h = absurd cc

    group_two : (x p q : Bool) → (x || (p || (q || false))) ≡ (x || (p || q))
    group_two x p q = ap (λ r. x || (p || r)) (or_nothing q)

    pub two_agrees : Agrees wire (made_two ∷ past) new endpoints
    two_agrees = record {
      ends = λ x. m.ends x ∙ (agrees.ends x ∙ sym (ends_two x));
      outs = λ x. ap is_out (m.table.places x) ∙ (placed (same y x || same z x) (place_of old.table x) (has (out past) x) (agrees.outs x)
          ∙ sym (out_after wire made_two past x ∙ group_two (has (out past) x && true) (same y x) (same z x)));
      there = λ x. ap (λ (o : Option Place). is_some o) (m.table.places x)
          ∙ (there_now (same y x || same z x) (place_of old.table x) (has (made past) x) (agrees.there x)
          ∙ sym (made_after wire made_two past x ∙ group_two (has (made past) x) (same y x) (same z x)));
      shuts = λ x. ap is_shut (m.table.places x) ∙ (shut_still (same y x || same z x) (place_of old.table x) (has (gone past) x) (agrees.shuts x)
          (shut_two x) ∙ sym (ap (λ gs. has gs x) (gone_still wire made_two past refl)));
      made = m.made ∙ (ap (λ n. n + 2) agrees.made ∙ sym (length-append (made past) (y ∷ z ∷ [])));
      serials = λ s. m.table.ends s ∙ (agrees.serials s ∙ none s);
      tokens = λ s. m.table.tokens s ∙ counted s;
      routers = steady wire made_two past
          (record { draws = λ x n. refl; answers = λ x n. refl; associates = λ x. refl; endpoints = λ x n. refl }) endpoints agrees.routers;
    }
      where
        none : (s : ℕ) → serials past s ≡ serials (made_two ∷ past) s
        none s =
            let sum = sum_by-append (λ x. if is_end x && (seq_of x == s) then 1 else 0) (made past) (y ∷ z ∷ []) in
            let e : (is_end y && (seq_of y == s)) ≡ false = rw first_next refl in
            let f : (is_end z && (seq_of z == s)) ≡ false = rw second_next refl in
            sym (sum ∙ rw (e, f) (omega arith))

        twice : (b : Bool) (n : ℕ) → n + (0 + (if b then 1 else 0) + (if b then 1 else 0)) ≡ n + (if b then 2 else 0)
        twice true n = omega arith
        twice false n = omega arith

        counted : (s : ℕ) → tokens_made old.table s + (if seq.0 == s then 2 else 0) ≡ tokens (made_two ∷ past) s
        counted s =
            let sum = sum_by-append (λ x. if not (is_end x) && (seq_of x == s) then 1 else 0) (made past) (y ∷ z ∷ []) in
            let e : (not (is_end y) && (seq_of y == s)) ≡ (seq.0 == s) = rw first_next refl in
            let f : (not (is_end z) && (seq_of z == s)) ≡ (seq.0 == s) = rw second_next refl in
            ap (λ n. n + (if seq.0 == s then 2 else 0)) (agrees.tokens s) ∙ sym (sum ∙ rw (e, f) (twice (seq.0 == s) (tokens past s)))
