-- Exactly one of the five answers fits: what A1's table says of bytes leaves no two of them.
use Rattle.std.proofs.Common.{◌≡◌, ◌≤◌, ◌<◌, ℕ, zero, suc, ◌+◌, Bool, true, false, List, [], ◌∷◌, ◌++◌, length, map, take, drop, refl, sym, ap, ◌∙◌, subst, arith, append_assoc}
use Rattle.std.proofs.lemmas.Bool.{ltb-false, ltb-true}
use Rattle.std.proofs.lemmas.List.{append-nil, map-append, reverse-append, reverse-reverse, take-append-drop, take-map, take-take}
use Rattle.std.proofs.Math.Seq.{take-append_seam, take-length}
use Rattle.std.specs.Prelude.{Option, Some, nat_lt, reverse, Result, Ok, Err}
use Rattle.mj_base.specs.declared.ids.SeqId.{SeqId}
use Rattle.mj_schema.specs.declared.schema.Schema.{Schema}
use Rattle.bind_model.specs.declared.asked.Asked.{Asked}
use Rattle.bind_model.specs.declared.event.Event.{Event}
use Rattle.bind_model.specs.declared.told.Told.{Told}
use Rattle.bind_model.specs.Left.{left}
use Rattle.bind_model.specs.Replies.{legal}
use Rattle.bind_model.specs.Wire.{Wire}
use Rattle.bind_model.specs.WireOf.{wire_of}
use Rattle.byte_rules.specs.Judged.{Spells, IsBad}
use Rattle.call_script.specs.declared.script.Script.{Script}
use Rattle.call_script.specs.Sound.{IsScript}
use Rattle.callback_laws.specs.Callbacks.{callbacks}
use Rattle.history_reader.specs.Said.{said, said_event}
use Rattle.history_reader.specs.Whole.{history as history_rule}
use Rattle.history_reader.specs.declared.printed.Printed.{Printed}
use Rattle.printed_histories.specs.Runs.{run_text}
use Rattle.script_run.specs.OfScript.{next_join, next_of, next_take}
use Rattle.history_audit.specs.steps.Begun.{Parts, next_in}
use Rattle.history_audit.specs.Audited.{Audits, BeginRun, HasTail, IsRun, IsSound, IsWrong, SayRun, first_differing}
use Rattle.history_audit.specs.declared.auditing.AuditFinding.{AuditFinding}
use Rattle.history_audit.specs.declared.auditing.AuditFinding.TheVariants.{Sound, Wrong, Short, Tail}
use Rattle.history_audit.specs.declared.auditing.AuditError.TheVariants.{BadText}
use Rattle.history_audit.proofs.Runs.{Asking, of, run_begins}

pub map_reverse : {A B : Type 0} (f : A → B) (xs : List A) → map f (reverse xs) ≡ reverse (map f xs)
map_reverse f [] = refl
map_reverse f (x ∷ xs) =
    ap (map f) (reverse-append (x ∷ []) xs)
    ∙ (map-append f (reverse xs) (x ∷ [])
    ∙ (ap (λ ys. ys ++ f x ∷ []) (map_reverse f xs) ∙ sym (reverse-append (f x ∷ []) (map f xs))))

module _ (schema : Schema) (script : Script) (is : IsScript schema script) where
  abbrev wire : Wire
  wire = wire_of schema

  abbrev next : Parts → SeqId → Option Asked
  next p s = next_in script.seqs (λ own. next_join script own) (λ aj t own. next_of wire script aj t own)
      (λ before own. next_take wire script.autos before own) p s

  -- ## What events say fixes them

  pub same_past : (xs ys : List Event) → legal wire script.seqs xs → Asking schema script xs → legal wire script.seqs ys → Asking schema script ys
      → map said_event xs ≡ map said_event ys → xs ≡ ys
  same_past [] [] h a g b e = refl
  same_past [] (y ∷ ys) h a g b e = absurd cc
  same_past (x ∷ xs) [] h a g b e = absurd cc
  same_past (x ∷ xs) (y ∷ ys) h a g b e =
      let rest : map said_event xs ≡ map said_event ys = cc in
      let head : said_event x ≡ said_event y = cc in
      let before : xs ≡ ys = same_past xs ys h.2 a.1 g.2 b.1 rest in
      let seq : x.seq ≡ y.seq = ap (λ (event : Event). event.seq) head in
      let told : x.told ≡ y.told = ap (λ (event : Event). event.told) head in
      let both : ◌≡◌ {A = Option Asked} (Some x.asked) (Some y.asked) =
      sym a.0 ∙ (ap (λ (es : List Event). next (of schema script es) x.seq) before
      ∙ (ap (λ (s : SeqId). next (of schema script ys) s) seq ∙ b.0)) in
      let asked : x.asked ≡ y.asked = cc in
      let same : x ≡ y =
      ap {A = SeqId} {B = Event} (λ s. record { seq = s; asked = x.asked; told = x.told }) seq
      ∙ (ap {A = Asked} {B = Event} (λ a. record { seq = y.seq; asked = a; told = x.told }) asked
      ∙ ap {A = Told} {B = Event} (λ t. record { seq = y.seq; asked = y.asked; told = t }) told) in
      ap (λ (event : Event). event ∷ xs) same ∙ ap (λ (es : List Event). y ∷ es) before

  same_run : (xs ys : List Event) → IsRun schema script xs → IsRun schema script ys → map said_event xs ≡ map said_event ys → xs ≡ ys
  same_run xs ys one other e =
      let turned : map said_event (reverse xs) ≡ map said_event (reverse ys) =
      map_reverse said_event xs ∙ (ap reverse e ∙ sym (map_reverse said_event ys)) in
      let back : reverse xs ≡ reverse ys =
      same_past (reverse xs) (reverse ys) one.legal (run_begins schema script is (reverse xs) one.legal one.events).0
      other.legal (run_begins schema script is (reverse ys) other.legal other.events).0 turned in
      sym (reverse-reverse xs) ∙ (ap reverse back ∙ reverse-reverse ys)

  -- ## Fronts of what begins a run

  begin_take : (n : ℕ) (events : List Event) → BeginRun schema script events → BeginRun schema script (take n events)
  begin_take n events begin = record {
    history = take n begin.history;
    more = drop n begin.history ++ begin.more;
    run = subst (λ (es : List Event). IsRun schema script es)
        (ap (λ (es : List Event). es ++ begin.more) (sym (take-append-drop n begin.history))
        ∙ append_assoc (take n begin.history) (drop n begin.history) begin.more) begin.run;
    said = sym (take-map said_event n begin.history) ∙ ap (take n) begin.said;
  }

  begin_less : (m n : ℕ) (events : List Event) → m ≤ n → BeginRun schema script (take n events) → BeginRun schema script (take m events)
  begin_less m n events less begin =
      subst (λ (es : List Event). BeginRun schema script es) (take-take m n events less) (begin_take m (take n events) begin)

  whole_begins : (events history : List Event) → SayRun schema script events history → BeginRun schema script events
  whole_begins events history whole = record {
    history = history;
    more = [];
    run = subst (λ (es : List Event). IsRun schema script es) (sym (append-nil history)) whole.0;
    said = whole.1;
  }

  -- ## The answers

  module _ (bytes : List ℕ)
      (reads : (history : List Event) → IsRun schema script history
      → Spells (history_rule schema) (said history (callbacks script.seqs history) (left script.seqs (reverse history))) (run_text schema script.seqs history))
      (one : (p q : Printed) → Spells (history_rule schema) p bytes → Spells (history_rule schema) q bytes → q ≡ p) where
    -- what the bytes say, where they are the text of a run
    said_of : (history : List Event) → IsRun schema script history → bytes ≡ run_text schema script.seqs history
        → Spells (history_rule schema) (said history (callbacks script.seqs history) (left script.seqs (reverse history))) bytes
    said_of history run text =
        subst (λ (bs : List ℕ). Spells (history_rule schema) (said history (callbacks script.seqs history) (left script.seqs (reverse history))) bs)
        (sym text) (reads history run)

    sound_says : (n : ℕ) (s : IsSound schema script bytes n) (p : Printed) → Spells (history_rule schema) p bytes
        → SayRun schema script p.events s.history
    sound_says n s p says = (
      s.run,
      ap (λ (q : Printed). q.events)
          (one p (said s.history (callbacks script.seqs s.history) (left script.seqs (reverse s.history))) says (said_of s.history s.run s.text)),
    )

    not_wrong : (i : ℕ) → IsWrong schema script bytes i → (p : Printed) → Spells (history_rule schema) p bytes → BeginRun schema script p.events → ⊥
    not_wrong i w p says begin =
        w.no_more (begin_take (i + 1) w.printed.events
        (subst (λ (q : Printed). BeginRun schema script q.events) (one w.printed p w.says says) begin))

    wrong_less : (i j : ℕ) → IsWrong schema script bytes i → IsWrong schema script bytes j → i ≤ j
    wrong_less i j v w = go (nat_lt j i) refl
      where
        go : (b : Bool) → nat_lt j i ≡ b → i ≤ j
        go false e = ltb-false j i e
        go true e =
            let less : j < i = ltb-true j i e in
            let same : v.printed ≡ w.printed = one w.printed v.printed w.says v.says in
            absurd (w.no_more (begin_less (j + 1) i w.printed.events (omega (arith, less))
            (subst (λ (q : Printed). BeginRun schema script (take i q.events)) same v.begin)))

    tail_whole : (line : ℕ) (t : HasTail schema script bytes line) (p : Printed) → Spells (history_rule schema) p bytes
        → SayRun schema script p.events t.history
    tail_whole line t p says = subst (λ (q : Printed). SayRun schema script q.events t.history) (sym (one t.printed p t.says says)) t.whole

    bad_less : (a b : ℕ) → IsBad (history_rule schema) bytes a → IsBad (history_rule schema) bytes b → a ≤ b
    bad_less a b one other = other.no_more a one.within (one.begins a (omega arith))

    both : (m n : ℕ) → m ≤ n → n ≤ m → m ≡ n
    both m n a b = omega (arith, a, b)

    -- of two answers of one kind they are the same, and two kinds don't meet
    pub one_audit : (a b : AuditFinding) → Audits schema script bytes (Ok a) → Audits schema script bytes (Ok b) → a ≡ b
    one_audit (Sound m) (Sound n) s t =
        let p : Printed = said t.history (callbacks script.seqs t.history) (left script.seqs (reverse t.history)) in
        let says = sound_says m s p (said_of t.history t.run t.text) in
        let same : s.history ≡ t.history = same_run s.history t.history s.run t.run says.1 in
        ap Sound (s.count ∙ (ap (λ (es : List Event). length es) same ∙ sym t.count))
    one_audit (Sound m) (Wrong i) s w =
        absurd (not_wrong i w w.printed w.says (whole_begins w.printed.events s.history (sound_says m s w.printed w.says)))
    one_audit (Sound m) (Short n) s t = absurd (t.not_whole s.history (sound_says m s t.printed t.says))
    one_audit (Sound m) (Tail line) s t =
        let says = sound_says m s t.printed t.says in
        let same : s.history ≡ t.history = same_run s.history t.history s.run t.whole.0 (says.1 ∙ sym t.whole.1) in
        absurd (t.differs (s.text ∙ ap (λ (es : List Event). run_text schema script.seqs es) same))
    one_audit (Wrong i) (Sound m) w s =
        absurd (not_wrong i w w.printed w.says (whole_begins w.printed.events s.history (sound_says m s w.printed w.says)))
    one_audit (Wrong i) (Wrong j) v w = ap Wrong (both i j (wrong_less i j v w) (wrong_less j i w v))
    one_audit (Wrong i) (Short n) w t = absurd (not_wrong i w t.printed t.says t.begin)
    one_audit (Wrong i) (Tail line) w t = absurd (not_wrong i w t.printed t.says (whole_begins t.printed.events t.history t.whole))
    one_audit (Short n) (Sound m) t s = absurd (t.not_whole s.history (sound_says m s t.printed t.says))
    one_audit (Short n) (Wrong i) t w = absurd (not_wrong i w t.printed t.says t.begin)
    one_audit (Short m) (Short n) s t = ap Short (s.count ∙ (ap (λ (p : Printed). length p.events) (one t.printed s.printed t.says s.says) ∙ sym t.count))
    one_audit (Short n) (Tail line) s t = absurd (s.not_whole t.history (tail_whole line t s.printed s.says))
    one_audit (Tail line) (Sound m) t s =
        let says = sound_says m s t.printed t.says in
        let same : s.history ≡ t.history = same_run s.history t.history s.run t.whole.0 (says.1 ∙ sym t.whole.1) in
        absurd (t.differs (s.text ∙ ap (λ (es : List Event). run_text schema script.seqs es) same))
    one_audit (Tail line) (Wrong i) t w = absurd (not_wrong i w t.printed t.says (whole_begins t.printed.events t.history t.whole))
    one_audit (Tail line) (Short n) t s = absurd (s.not_whole t.history (tail_whole line t s.printed s.says))
    one_audit (Tail k) (Tail line) s t =
        let says = tail_whole line t s.printed s.says in
        let same : s.history ≡ t.history = same_run s.history t.history s.whole.0 t.whole.0 (s.whole.1 ∙ sym says.1) in
        ap Tail (s.at ∙ (ap (λ (es : List Event). first_differing 1 bytes (run_text schema script.seqs es)) same ∙ sym t.at))

    -- a refusal has one place, and is none of the four
    pub one_bad : (a b : ℕ) → Audits schema script bytes (Err (BadText a)) → Audits schema script bytes (Err (BadText b)) → a ≡ b
    one_bad a b one other = both a b (bad_less a b one other) (bad_less b a other one)

    pub bad_alone : (at : ℕ) (a : AuditFinding) → Audits schema script bytes (Err (BadText at)) → Audits schema script bytes (Ok a) → ⊥
    bad_alone at (Sound n) bad s =
        bad.none (said s.history (callbacks script.seqs s.history) (left script.seqs (reverse s.history))) (said_of s.history s.run s.text)
    bad_alone at (Wrong i) bad w = bad.none w.printed w.says
    bad_alone at (Short n) bad t = bad.none t.printed t.says
    bad_alone at (Tail line) bad t = bad.none t.printed t.says
