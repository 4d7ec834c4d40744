-- Queues that give the lines in the order of the draws.
use Rattle.std.proofs.Common.{◌≡◌, ◌<◌, ◌≤◌, ◌+◌, ◌-◌, ℕ, suc, Bool, true, false, List, [], ◌∷◌, ◌++◌, length, take, get_or, ◌⊎◌}
use Rattle.std.proofs.Common.{inl, inr, refl, sym, ap, ◌∙◌, subst, arith}
use Rattle.std.specs.Prelude.{◌==◌, ◌/◌, ◌%◌, ◌^◌, cond, not, filter, map, nat_lt, set, sum_by, count_by, Option, Some, None, IfSome}
use Rattle.std.specs.Prelude.{slice_get, option_and_then}
use Rattle.std.specs.Borrow.{Bor}
use Rattle.std.specs.Option.{option_copied, option_map}
use Rattle.std.proofs.lemmas.Bool.{and_left, and_parts, cases_lt, eq-eqb, eqb-true, ne_eqb}
use Rattle.std.proofs.lemmas.List.{length-append, length-map, length-set, take-append-le, take_all, take_at}
use Rattle.std.proofs.lemmas.List.Elements.{filter-append}
use Rattle.std.proofs.lemmas.List.Sums.{length-filter, sum_by-set}
use Rattle.std.proofs.lemmas.Option.{get_or_from_slice_get, same_Some, slice_get_past, slice_get_within}
use Rattle.handle_table.proofs.NumberedLemmas.{get-push, get-set}
use Rattle.mj_base.specs.declared.ids.SeqId.{SeqId}
use Rattle.bind_model.specs.Laws.{up_from}
use Rattle.call_script.specs.declared.script.Line.{Line}
use Rattle.call_script.specs.declared.script.Script.{Script}
use Rattle.script_run.specs.declared.order.Queue.{Queue}
use Rattle.script_run.specs.Order.{counted_round, drawn, is_join, is_own, lines_of, next_draw, sequences}
use Rattle.script_run.specs.steps.Orders.{AreInOrder, AreQueues, GivesNext, HasTaken, IsQueue, Takes}
use Rattle.script_run.specs.steps.Orders.{count_of, has_more, left_from, next_in_order, numbered, queued, waiting, whose}
use Rattle.script_run.proofs.OrderLists.{kept_passes}
use Rattle.script_run.proofs.Sequences.{same_seq}
use Rattle.script_names.proofs.TableLemmas.{eqb-turned}
use Rattle.script_run.proofs.TurnLemmas.{left_behind}

-- ## The queues that have lines left

-- how many they are
left_length : (first : ℕ) (queues : List Queue) → length (filter has_more queues) ≡ length (left_from first queues)
left_length first [] = refl
left_length first (queue ∷ queues) = go (has_more queue) (left_length (first + 1) queues)
  where
    go : (b : Bool) → length (filter has_more queues) ≡ length (left_from (first + 1) queues)
        → length (cond b (queue ∷ filter has_more queues) (filter has_more queues))
        ≡ length (cond b (numbered first ∷ left_from (first + 1) queues) (left_from (first + 1) queues))
    go true e = ap suc e
    go false e = e

pub count_left : (queues : List Queue) → count_by has_more queues ≡ length (left_from 0 queues)
count_left queues = sym (length-filter has_more queues) ∙ left_length 0 queues

-- where there is none, it is nobody's turn
pub none_round : (queues : List Queue) (draw n : ℕ) → n ≡ count_by has_more queues → n ≡ 0 → counted_round (left_from 0 queues) draw ≡ None
none_round queues draw n e z =
    let none : length (left_from 0 queues) ≡ 0 = sym (count_left queues) ∙ (sym e ∙ z) in
    slice_get_past (left_from 0 queues) (draw / (2 ^ 32) % length (left_from 0 queues)) (omega arith)

-- they are the sequences that have lines left
left_are : (script : Script) (before : List Line) (first : ℕ) (queues : List Queue)
    → ((n : ℕ) (queue : Queue) → slice_get queues n ≡ Some queue → has_more queue ≡ left_behind script before (numbered (first + n)))
    → left_from first queues ≡ filter (left_behind script before) (map numbered (up_from first (length queues)))
left_are script before first [] same = refl
left_are script before first (queue ∷ queues) same =
    let zeroth : first + 0 ≡ first = omega arith in
    let next : suc first ≡ first + 1 = omega arith in
    let head : has_more queue ≡ left_behind script before (numbered first)
    = same 0 queue refl ∙ ap (λ (m : ℕ). left_behind script before (numbered m)) zeroth in
    let tail : left_from (first + 1) queues ≡ filter (left_behind script before) (map numbered (up_from (first + 1) (length queues)))
    = left_are script before (first + 1) queues (λ n q e.
    let step : first + suc n ≡ first + 1 + n = omega arith in
    same (suc n) q e ∙ ap (λ (m : ℕ). left_behind script before (numbered m)) step) in
    let tail' : left_from (first + 1) queues ≡ filter (left_behind script before) (map numbered (up_from (suc first) (length queues)))
    = tail ∙ ap (λ (m : ℕ). filter (left_behind script before) (map numbered (up_from m (length queues)))) (sym next) in
    ap (λ (b : Bool). cond b (numbered first ∷ left_from (first + 1) queues) (left_from (first + 1) queues)) head
    ∙ ap (λ (ss : List SeqId). cond (left_behind script before (numbered first)) (numbered first ∷ ss) ss) tail'

pub queued_left : (script : Script) (before : List Line) (queues : List Queue) → AreQueues script before queues
    → left_from 0 queues ≡ filter (left_behind script before) (sequences script)
queued_left script before queues are =
    left_are script before 0 queues (λ n q e.
    let is : IsQueue script before n q = are.each n q e in
    let zeroth : n ≡ 0 + n = omega arith in
    let long : length q.lines.items ≡ length (lines_of script (numbered n)) = sym (length-map q.lines.items (λ line. line.now)) ∙ ap length is.lines in
    ap (λ (m : ℕ). nat_lt m (length q.lines.items)) is.done
    ∙ (ap (nat_lt (count_of (numbered n) before)) long ∙ ap (λ (m : ℕ). left_behind script before (numbered m)) zeroth))
    ∙ ap (λ (m : ℕ). filter (left_behind script before) (map numbered (up_from 0 m))) are.count

-- ## A line more

count_snoc : (s : SeqId) (before : List Line) (l : Line) → count_of s (before ++ l ∷ []) ≡ count_of s before + cond (is_own s l) 1 0
count_snoc s before l = ap length (filter-append (is_own s) before (l ∷ [])) ∙ (length-append (filter (is_own s) before) (filter (is_own s) (l ∷ []))
    ∙ ap (λ (n : ℕ). count_of s before + n) (go (is_own s l)))
  where
    go : (b : Bool) → length (cond b (l ∷ []) []) ≡ cond b 1 0
    go true = refl
    go false = refl

module _ (script : Script) (before : List Line) (old : List Queue) (are : AreQueues script before old)
    (n : ℕ) (queue after : Queue) (here : slice_get old n ≡ Some queue) (same : after.lines ≡ queue.lines) (more : after.done ≡ queue.done + 1) where
  front : slice_get (queued queue) queue.done ≡ slice_get (lines_of script (numbered n)) (count_of (numbered n) before)
  front =
      let is : IsQueue script before n queue = are.each n queue here in
      ap (λ (ls : List Line). slice_get ls queue.done) is.lines ∙ ap (slice_get (lines_of script (numbered n))) is.done

  module _ (l : Line) (gives : slice_get (queued queue) queue.done ≡ Some l) where
    own : is_own (numbered n) l ≡ true
    own = kept_passes (is_own (numbered n)) script.lines (count_of (numbered n) before) l (sym front ∙ gives)

    seq_is : numbered n ≡ l.seq
    seq_is = same_seq (numbered n) l.seq (and_parts (n == l.seq.0) (not (is_join l.command)) own).0

    not_own : (m : ℕ) → (n == m) ≡ false → is_own (numbered m) l ≡ false
    not_own m e =
        let s : n ≡ l.seq.0 = ap (λ (t : SeqId). t.0) seq_is in
        and_left (m == l.seq.0) (not (is_join l.command)) (ap (λ (k : ℕ). m == k) (sym s) ∙ (eqb-turned m n ∙ e))

    its_queue : IsQueue script (before ++ l ∷ []) n after
    its_queue =
        let is : IsQueue script before n queue = are.each n queue here in
        record {
          lines = ap (λ lines. map (λ line. line.now) lines.items) same ∙ is.lines;
          done = more ∙ (ap (λ (k : ℕ). k + 1) is.done
              ∙ sym (count_snoc (numbered n) before l ∙ ap (λ (b : Bool). count_of (numbered n) before + cond b 1 0) own));
        }

    other_queue : (m : ℕ) (q : Queue) → (n == m) ≡ false → slice_get old m ≡ Some q → IsQueue script (before ++ l ∷ []) m q
    other_queue m q e at =
        let is : IsQueue script before m q = are.each m q at in
        let zeroth : count_of (numbered m) before ≡ count_of (numbered m) before + 0 = omega arith in
        record {
          lines = is.lines;
          done = is.done ∙ (zeroth
              ∙ sym (count_snoc (numbered m) before l ∙ ap (λ (b : Bool). count_of (numbered m) before + cond b 1 0) (not_own m e)));
        }

    queues_after : AreQueues script (before ++ l ∷ []) (set old n after)
    queues_after = record { count = length-set old n after ∙ are.count; each = λ m q e. of m q (n == m) refl (sym (get-set after old n m) ∙ e) }
      where
        of : (m : ℕ) (q : Queue) (b : Bool) → (n == m) ≡ b
            → cond b (option_map (λ (before : Queue). after) (slice_get old m)) (slice_get old m) ≡ Some q → IsQueue script (before ++ l ∷ []) m q
        of m q true e h =
            let there : slice_get old m ≡ Some queue = ap (slice_get old) (sym (eqb-true n m e)) ∙ here in
            let is : after ≡ q = same_Some after q (sym (ap (option_map (λ (before : Queue). after)) there) ∙ h) in
            subst (λ (k : ℕ). IsQueue script (before ++ l ∷ []) k q) (eqb-true n m e) (subst (IsQueue script (before ++ l ∷ []) n) is its_queue)
        of m q false e h = other_queue m q e h

-- ## What is given

-- whose turn it is, by the queues
whose_is : (script : Script) (order : ℕ) (before : List Line) (old : List Queue) (draw : ℕ) → AreQueues script before old
    → draw ≡ drawn order (length before) → whose script order before ≡ counted_round (left_from 0 old) draw
whose_is script order before old draw are e =
    ap (λ (ss : List SeqId). counted_round ss (drawn order (length before))) (sym (queued_left script before old are))
    ∙ ap (counted_round (left_from 0 old)) (sym e)

pub takes_none : (old new : List Queue) (draw : ℕ) → counted_round (left_from 0 old) draw ≡ None → Takes old draw None new
takes_none old new draw none script order before are e = record {
  next = ap (option_and_then (λ (s : SeqId). slice_get (lines_of script s) (count_of s before)))
      (whose_is script order before old draw are e ∙ none);
  after = λ l h. absurd cc;
}

pub takes_some : (old : List Queue) (draw n : ℕ) (queue after : Queue) (line : Option Line) → counted_round (left_from 0 old) draw ≡ Some (numbered n)
    → slice_get old n ≡ Some queue → line ≡ slice_get (queued queue) queue.done → after.lines ≡ queue.lines
    → IfSome line (λ l. after.done ≡ queue.done + 1) → Takes old draw line (set old n after)
takes_some old draw n queue after None found here e same more script order before are d = record {
  next = ap (option_and_then (λ (s : SeqId). slice_get (lines_of script s) (count_of s before)))
      (whose_is script order before old draw are d ∙ found)
      ∙ (ap (λ (ls : List Line). slice_get ls (count_of (numbered n) before)) (sym (are.each n queue here).lines)
      ∙ (ap (slice_get (queued queue)) (sym (are.each n queue here).done) ∙ sym e));
  after = λ l h. absurd cc;
}
takes_some old draw n queue after (Some l) found here e same more script order before are d = record {
  next = ap (option_and_then (λ (s : SeqId). slice_get (lines_of script s) (count_of s before)))
      (whose_is script order before old draw are d ∙ found)
      ∙ (sym (front script before old are n queue after here same more) ∙ sym e);
  after = λ k h. subst (λ (x : Line). AreQueues script (before ++ x ∷ []) (set old n after)) (same_Some l k h)
      (queues_after script before old are n queue after here same more l (sym e));
}

pub if_copied : (line : Option (Bor Line)) (P : Type 0) → IfSome line (λ l. P) → IfSome (option_copied line) (λ l. P)
if_copied None P h = tt
if_copied (Some l) P h = h

-- fewer lines are left
less_left : (f : Queue → ℕ) (old : List Queue) (n : ℕ) (queue after : Queue) → slice_get old n ≡ Some queue → f after < f queue
    → sum_by f (set old n after) < sum_by f old
less_left f old n queue after here less =
    let w : n < length old = slice_get_within old n queue here in
    let changed : sum_by f (set old n after) + f (get_or old n queue) ≡ sum_by f old + f after = sum_by-set f old n after queue w in
    let was : f (get_or old n queue) ≡ f queue = ap f (get_or_from_slice_get old n queue queue here) in
    omega arith

pub waiting_less : (old : List Queue) (n : ℕ) (queue after : Queue) (line : Option (Bor Line)) → slice_get old n ≡ Some queue
    → option_copied line ≡ slice_get (queued queue) queue.done → after.lines ≡ queue.lines → IfSome line (λ l. after.done ≡ queue.done + 1)
    → IfSome line (λ l. waiting (set old n after) < waiting old)
waiting_less old n queue after None here e same more = tt
waiting_less old n queue after (Some l) here e same more =
    let long : length (queued queue) ≡ length queue.lines.items = length-map queue.lines.items (λ line. line.now) in
    let within : queue.done < length (queued queue) = slice_get_within (queued queue) queue.done l.now (sym e) in
    let lines : length after.lines.items ≡ length queue.lines.items = ap (λ lines. length lines.items) same in
    less_left (λ (q : Queue). length q.lines.items - q.done) old n queue after here (omega arith)

-- ## All queues

-- one more queue
pub each_more : (script : Script) (queues new : List Queue) (count : ℕ) (queue : Queue) → length queues ≡ count
    → ((n : ℕ) (q : Queue) → slice_get queues n ≡ Some q → IsQueue script [] n q) → IsQueue script [] count queue → new ≡ queues ++ queue ∷ []
    → (n : ℕ) (q : Queue) → slice_get new n ≡ Some q → IsQueue script [] n q
each_more script queues new count queue long each is e n q h =
    go (length queues == n) refl (sym (get-push queue queues n) ∙ (ap (λ (qs : List Queue). slice_get qs n) (sym e) ∙ h))
  where
    go : (b : Bool) → (length queues == n) ≡ b → cond b (Some queue) (slice_get queues n) ≡ Some q → IsQueue script [] n q
    go true at f = subst (λ (k : ℕ). IsQueue script [] k q) (sym long ∙ eqb-true (length queues) n at)
        (subst (IsQueue script [] count) (same_Some queue q f) is)
    go false at f = each n q f

-- ## The lines that were taken

get_before : (taken : List Line) (l : Line) (k : ℕ) → k < length taken → slice_get (taken ++ l ∷ []) k ≡ slice_get taken k
get_before taken l k w = get-push l taken k
    ∙ ap (λ (b : Bool). cond b (Some l) (slice_get taken k)) (ne_eqb (length taken) k (λ e. absurd (omega arith)))

get_last : (taken : List Line) (l : Line) (k : ℕ) → k ≡ length taken → slice_get (taken ++ l ∷ []) k ≡ Some l
get_last taken l k e = get-push l taken k
    ∙ ap (λ (b : Bool). cond b (Some l) (slice_get taken k)) (eq-eqb (length taken) k (sym e))

first_more : (script : Script) (order : ℕ) (taken : List Line) (l : Line)
    → ((k : ℕ) → k < length taken → slice_get taken k ≡ next_in_order script order (take k taken))
    → next_in_order script order taken ≡ Some l
    → (k : ℕ) → k < length (taken ++ l ∷ []) → slice_get (taken ++ l ∷ []) k ≡ next_in_order script order (take k (taken ++ l ∷ []))
first_more script order taken l first e k w = go (cases_lt k (length taken))
  where
    go : (k < length taken) ⊎ (length taken ≤ k) → slice_get (taken ++ l ∷ []) k ≡ next_in_order script order (take k (taken ++ l ∷ []))
    go (inl v) =
        let same : take k (taken ++ l ∷ []) ≡ take k taken = take-append-le k taken (l ∷ []) (omega arith) in
        get_before taken l k v ∙ (first k v ∙ ap (next_in_order script order) (sym same))
    go (inr v) =
        let long : length (taken ++ l ∷ []) ≡ length taken + 1 = length-append taken (l ∷ []) in
        let last : k ≡ length taken = omega arith in
        let all : take k (taken ++ l ∷ []) ≡ taken = take_at taken (l ∷ []) k (sym last) in
        get_last taken l k last ∙ (sym e ∙ ap (next_in_order script order) (sym all))

pub taken_more : (script : Script) (order draw : ℕ) (taken : List Line) (old new : List Queue) (l : Line) → HasTaken script order draw taken old
    → Takes old draw (Some l) new → HasTaken script order (next_draw draw) (taken ++ l ∷ []) new
taken_more script order draw taken old new l has takes =
    let gives : GivesNext script order taken (Some l) new = takes script order taken has.left has.number in
    let long : length (taken ++ l ∷ []) ≡ suc (length taken) = length-append taken (l ∷ []) ∙ omega arith in
    record {
      left = gives.after l refl;
      number = ap next_draw has.number ∙ ap (drawn order) (sym long);
      first = first_more script order taken l has.first gives.next;
    }

-- the same, of what equals these
pub taken_after : (script : Script) (order draw draw' : ℕ) (taken taken' : List Line) (old new new' : List Queue) (l : Line)
    → HasTaken script order draw taken old → Takes old draw (Some l) new → draw' ≡ next_draw draw → taken' ≡ taken ++ l ∷ [] → new' ≡ new
    → HasTaken script order draw' taken' new'
taken_after script order draw draw' taken taken' old new new' l has takes d t n =
    let more : HasTaken script order (next_draw draw) (taken ++ l ∷ []) new = taken_more script order draw taken old new l has takes in
    subst (λ (g : ℕ). HasTaken script order g taken' new') (sym d)
    (subst (λ (ls : List Line). HasTaken script order (next_draw draw) ls new') (sym t)
    (subst (HasTaken script order (next_draw draw) (taken ++ l ∷ [])) (sym n) more))

pub taken_all : (script : Script) (order draw : ℕ) (taken : List Line) (old new : List Queue) → HasTaken script order draw taken old
    → Takes old draw None new → AreInOrder script order taken
taken_all script order draw taken old new has takes k w = go (cases_lt k (length taken))
  where
    go : (k < length taken) ⊎ (length taken ≤ k) → slice_get taken k ≡ next_in_order script order (take k taken)
    go (inl v) = has.first k v
    go (inr v) =
        let gives : GivesNext script order taken None new = takes script order taken has.left has.number in
        slice_get_past taken k v ∙ (sym gives.next ∙ ap (next_in_order script order) (sym (take_all k taken v)))
