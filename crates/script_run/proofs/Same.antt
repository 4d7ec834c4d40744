-- Scripts that are the same, but for where their values lie in memory, have the same events.
use Rattle.std.proofs.Common.{◌≡◌, ◌<◌, ℕ, cond, List, [], ◌∷◌, ◌++◌, refl, sym, ap, ◌∙◌, subst, Some, None}
use Rattle.std.specs.Prelude.{ℤ, Bool, true, false, zero, suc, ◌+◌, ◌==◌, ◌&&◌, not, drop, take, length, reverse, filter, find, Option, is_some, slice_get, option_and_then, if◌then◌else◌}
use Rattle.std.specs.Option.{option_map}
use Rattle.mj_base.specs.declared.ids.EndId.{EndId}
use Rattle.mj_base.specs.declared.ids.SeqId.{SeqId}
use Rattle.mj_schema.specs.declared.schema.Schema.{Schema}
use Rattle.handle_table.specs.declared.thing.Thing.{Thing}
use Rattle.wire_model.specs.Trees.{Tree, view}
use Rattle.wire_model.specs.declared.target.Target.{Target}
use Rattle.wire_encoder.specs.declared.prepared.Prepared.{Prepared}
use Rattle.bind_model.specs.Machine.{handed}
use Rattle.bind_model.specs.Ready.{ready}
use Rattle.bind_model.specs.Replies.{responders_handed}
use Rattle.bind_model.specs.Seen.{own_of}
use Rattle.bind_model.specs.Wire.{Wire}
use Rattle.bind_model.specs.WireOf.{wire_of}
use Rattle.bind_model.specs.declared.asked.Asked.{Asked}
use Rattle.bind_model.specs.declared.asked.Asked.TheVariants as asks
use Rattle.bind_model.specs.declared.asked.Outgoing.{Outgoing}
use Rattle.bind_model.specs.declared.endpoint.PendingId.{PendingId}
use Rattle.bind_model.specs.declared.endpoint.ResponderId.{ResponderId}
use Rattle.bind_model.specs.declared.event.Event.{Event}
use Rattle.call_script.specs.Same.{SamePrepared, SameCommand, SameReply, SameReplies, SameLine, SameLines, SameScript}
use Rattle.call_script.specs.Sound.{sets}
use Rattle.call_script.specs.declared.script.AutoReply.{AutoReply}
use Rattle.call_script.specs.declared.script.Command.{Command}
use Rattle.call_script.specs.declared.script.Command.TheVariants.{Join, Pipe, Mint, Bind, Associate, Attach, Call, Take, Answer, Raw, CloseToken, CloseEndpoint}
use Rattle.call_script.specs.declared.script.Command.TheVariants.{Notify, Pause, Data, Flow}
use Rattle.call_script.specs.declared.script.Line.{Line}
use Rattle.call_script.specs.declared.script.NameId.{NameId}
use Rattle.call_script.specs.declared.script.Script.{Script}
use Rattle.script_names.specs.Asking.{outgoing, as_end, or_skip, all_held, sent_with, asked_for, asked_by}
use Rattle.script_names.specs.Autos.{replies_to, Due, due_for, due, lines_done, line_at}
use Rattle.script_names.specs.Names.{Named, unnamed, things_named, pendings_named, handles_spent, pendings_spent, responders_spent, then_held, or_before}
use Rattle.script_names.specs.Names.{set_by, is_done, spent_by, pendings_handed, responders_named, named_after, named, is_seq, joins_to, came_to, joined_after, joined}
use Rattle.script_run.specs.Order.{is_join, joins_of, is_own, lines_of}
use Rattle.script_run.specs.OfScript.{AsksNext, AsksAll, Next, GoesOn, IsPart, replied, reply_first, names_of, next_of, joins_by, next_join, reply_or, next_take}
use Rattle.script_run.specs.OfScript.{PastInSomeOrder, InSomeOrder}

-- ## What is sent

abbrev sends : Target → Tree → List Thing → List PendingId → Option ℤ → Outgoing
sends target tree things pendings moment = record { target = target; parameters = tree; handles = things; pendings = pendings; moment = moment }

outgoing_same : (p q : Prepared) (things : List Thing) (pendings : List PendingId) (moment : Option ℤ) → SamePrepared p q
    → outgoing p things pendings moment ≡ outgoing q things pendings moment
outgoing_same p q things pendings moment same =
    ap (λ (t : Target). sends t (view p.value) things pendings moment) same.target ∙ ap (λ (v : Tree). sends q.target v things pendings moment) same.value

-- with what is held under names
abbrev sends_with : Named → List NameId → Option ℤ → Target → Tree → Option Outgoing
sends_with names list moment target tree = option_and_then
    (λ (xs : List Thing). option_map (λ (ps : List PendingId). sends target tree xs ps moment) (all_held names.pending (pendings_named names.stands list)))
    (all_held names.handle (things_named names.stands list))

sent_same : (names : Named) (p q : Prepared) (list : List NameId) (moment : Option ℤ) → SamePrepared p q
    → sent_with names p list moment ≡ sent_with names q list moment
sent_same names p q list moment same =
    ap (λ (t : Target). sends_with names list moment t (view p.value)) same.target ∙ ap (sends_with names list moment q.target) same.value

-- ## Commands

-- what a call or an answer with the same says of it, every command that is the same does
module _ {A : Type 0} (f : Command → A)
    (call : (n : NameId) (id : ℕ) (p q : Prepared) (list : List NameId) (moment : Option ℤ) → SamePrepared p q
    → f (Call n id p list moment) ≡ f (Call n id q list moment))
    (answer : (n : NameId) (p q : Prepared) (list : List NameId) (moment : Option ℤ) → SamePrepared p q
    → f (Answer n p list moment) ≡ f (Answer n q list moment)) where
  command_same : (c d : Command) → SameCommand c d → f c ≡ f d
  command_same (Call n id p list moment) (Call m i q names at) same =
      call n id p q list moment same.2
      ∙ ap (λ (x : NameId). f (Call x id q list moment)) same.0
      ∙ ap (λ (x : ℕ). f (Call m x q list moment)) same.1
      ∙ ap (λ (x : List NameId). f (Call m i q x moment)) same.3
      ∙ ap (λ (x : Option ℤ). f (Call m i q names x)) same.4
  command_same (Call n id p list moment) (Join o a b) same = ap f same
  command_same (Call n id p list moment) (Pipe a b) same = ap f same
  command_same (Call n id p list moment) (Mint s a) same = ap f same
  command_same (Call n id p list moment) (Bind a s i) same = ap f same
  command_same (Call n id p list moment) (Associate a s i b) same = ap f same
  command_same (Call n id p list moment) (Attach a s) same = ap f same
  command_same (Call n id p list moment) (Take a l) same = ap f same
  command_same (Call n id p list moment) (Raw a b l) same = ap f same
  command_same (Call n id p list moment) (CloseToken a) same = ap f same
  command_same (Call n id p list moment) (CloseEndpoint a i) same = ap f same
  command_same (Call n id p list moment) (Notify a x) same = ap f same
  command_same (Call n id p list moment) (Pause a b i) same = ap f same
  command_same (Call n id p list moment) (Data i a b) same = ap f same
  command_same (Call n id p list moment) (Flow a x) same = ap f same
  command_same (Call n id p list moment) (Answer m q names at) same = ap f same
  command_same (Answer n p list moment) (Answer m q names at) same =
      answer n p q list moment same.1
      ∙ ap (λ (x : NameId). f (Answer x q list moment)) same.0
      ∙ ap (λ (x : List NameId). f (Answer m q x moment)) same.2
      ∙ ap (λ (x : Option ℤ). f (Answer m q names x)) same.3
  command_same (Answer n p list moment) (Join o a b) same = ap f same
  command_same (Answer n p list moment) (Pipe a b) same = ap f same
  command_same (Answer n p list moment) (Mint s a) same = ap f same
  command_same (Answer n p list moment) (Bind a s i) same = ap f same
  command_same (Answer n p list moment) (Associate a s i b) same = ap f same
  command_same (Answer n p list moment) (Attach a s) same = ap f same
  command_same (Answer n p list moment) (Take a l) same = ap f same
  command_same (Answer n p list moment) (Raw a b l) same = ap f same
  command_same (Answer n p list moment) (CloseToken a) same = ap f same
  command_same (Answer n p list moment) (CloseEndpoint a i) same = ap f same
  command_same (Answer n p list moment) (Notify a x) same = ap f same
  command_same (Answer n p list moment) (Pause a b i) same = ap f same
  command_same (Answer n p list moment) (Data i a b) same = ap f same
  command_same (Answer n p list moment) (Flow a x) same = ap f same
  command_same (Answer n p list moment) (Call m i q names at) same = ap f same
  command_same (Join o a b) d same = ap f same
  command_same (Pipe a b) d same = ap f same
  command_same (Mint s a) d same = ap f same
  command_same (Bind a s i) d same = ap f same
  command_same (Associate a s i b) d same = ap f same
  command_same (Attach a s) d same = ap f same
  command_same (Take a l) d same = ap f same
  command_same (Raw a b l) d same = ap f same
  command_same (CloseToken a) d same = ap f same
  command_same (CloseEndpoint a i) d same = ap f same
  command_same (Notify a x) d same = ap f same
  command_same (Pause a b i) d same = ap f same
  command_same (Data i a b) d same = ap f same
  command_same (Flow a x) d same = ap f same

-- what is asked
asked_same : (names : Named) (c d : Command) → SameCommand c d → asked_for names c ≡ asked_for names d
asked_same names c d same =
    command_same (asked_for names)
    (λ n id p q list moment is. ap (λ (o : Option Outgoing). option_and_then (λ (y : EndId). option_map (λ (sent : Outgoing). asks.Call y id sent) o)
    (as_end (names.stands n))) (sent_same names p q list moment is))
    (λ n p q list moment is. ap (λ (o : Option Outgoing). option_and_then (λ (r : ResponderId). option_map (λ (sent : Outgoing). asks.Answer r sent) o)
    (names.responder n)) (sent_same names p q list moment is))
    c d same

-- the names that are set
sets_same : (c d : Command) → SameCommand c d → sets c ≡ sets d
sets_same c d same = command_same sets (λ n id p q list moment is. refl) (λ n p q list moment is. refl) c d same

is_join_same : (c d : Command) → SameCommand c d → is_join c ≡ is_join d
is_join_same c d same = command_same is_join (λ n id p q list moment is. refl) (λ n p q list moment is. refl) c d same

joins_to_same : (s : SeqId) (c d : Command) → SameCommand c d → joins_to s c ≡ joins_to s d
joins_to_same s c d same = command_same (joins_to s) (λ n id p q list moment is. refl) (λ n p q list moment is. refl) c d same

-- the names whose handles, pendings and responder are spent
abbrev spent : (NameId → Option Thing) → Asked → Command → List NameId × List NameId × List NameId
spent stands asked command = (handles_spent stands command asked, pendings_spent stands command asked, responders_spent stands command asked)

call_spent : (stands : NameId → Option Thing) (asked : Asked) (n : NameId) (id : ℕ) (p q : Prepared) (list : List NameId) (moment : Option ℤ)
    → spent stands asked (Call n id p list moment) ≡ spent stands asked (Call n id q list moment)
call_spent stands asks.Pipe n id p q list moment = refl
call_spent stands (asks.Join s) n id p q list moment = refl
call_spent stands (asks.Mint s) n id p q list moment = refl
call_spent stands (asks.Bind x s i) n id p q list moment = refl
call_spent stands (asks.Associate x s i) n id p q list moment = refl
call_spent stands (asks.Attach y s) n id p q list moment = refl
call_spent stands (asks.Call x i o) n id p q list moment = refl
call_spent stands (asks.Answer r o) n id p q list moment = refl
call_spent stands (asks.Raw x b l) n id p q list moment = refl
call_spent stands (asks.Take x) n id p q list moment = refl
call_spent stands (asks.Close c) n id p q list moment = refl
call_spent stands (asks.Notify x u) n id p q list moment = refl
call_spent stands (asks.Pause x y i) n id p q list moment = refl
call_spent stands (asks.Data i) n id p q list moment = refl
call_spent stands (asks.Flow x f) n id p q list moment = refl
call_spent stands (asks.Skip i) n id p q list moment = refl

answer_spent : (stands : NameId → Option Thing) (asked : Asked) (n : NameId) (p q : Prepared) (list : List NameId) (moment : Option ℤ)
    → spent stands asked (Answer n p list moment) ≡ spent stands asked (Answer n q list moment)
answer_spent stands asks.Pipe n p q list moment = refl
answer_spent stands (asks.Join s) n p q list moment = refl
answer_spent stands (asks.Mint s) n p q list moment = refl
answer_spent stands (asks.Bind x s i) n p q list moment = refl
answer_spent stands (asks.Associate x s i) n p q list moment = refl
answer_spent stands (asks.Attach y s) n p q list moment = refl
answer_spent stands (asks.Call x i o) n p q list moment = refl
answer_spent stands (asks.Answer r o) n p q list moment = refl
answer_spent stands (asks.Raw x b l) n p q list moment = refl
answer_spent stands (asks.Take x) n p q list moment = refl
answer_spent stands (asks.Close c) n p q list moment = refl
answer_spent stands (asks.Notify x u) n p q list moment = refl
answer_spent stands (asks.Pause x y i) n p q list moment = refl
answer_spent stands (asks.Data i) n p q list moment = refl
answer_spent stands (asks.Flow x f) n p q list moment = refl
answer_spent stands (asks.Skip i) n p q list moment = refl

spent_same : (stands : NameId → Option Thing) (asked : Asked) (c d : Command) → SameCommand c d → spent stands asked c ≡ spent stands asked d
spent_same stands asked c d same =
    command_same (spent stands asked) (λ n id p q list moment is. call_spent stands asked n id p q list moment)
    (λ n p q list moment is. answer_spent stands asked n p q list moment) c d same

-- ## Automatic replies

abbrev SameFound : Option AutoReply → Option AutoReply → Type 0
SameFound None None = Unit {0}
SameFound (Some x) (Some y) = SameReply x y
SameFound _ _ = ⊥

abbrev SameDue : Option Due → Option Due → Type 0
SameDue None None = Unit {0}
SameDue (Some d) (Some e) = (d.0 ≡ e.0) × SameReply d.1 e.1
SameDue _ _ = ⊥

replies_same : (s : SeqId) (r : ResponderId) (x y : AutoReply) → SameReply x y → replies_to s r x ≡ replies_to s r y
replies_same s r x y same =
    ap (λ (q : SeqId). (q.0 == s.0) && (x.prepared.target.interface == r.interface) && (x.prepared.target.method == r.method)) same.seq
    ∙ ap (λ (t : Target). (y.seq.0 == s.0) && (t.interface == r.interface) && (t.method == r.method)) same.prepared.target

find_same : (s : SeqId) (r : ResponderId) (xs ys : List AutoReply) → SameReplies xs ys → SameFound (find (replies_to s r) xs) (find (replies_to s r) ys)
find_same s r [] [] same = tt
find_same s r [] (y ∷ ys) same = absurd same
find_same s r (x ∷ xs) [] same = absurd same
find_same s r (x ∷ xs) (y ∷ ys) same =
    subst (λ (b : Bool). SameFound (find (replies_to s r) (x ∷ xs)) (cond b (Some y) (find (replies_to s r) ys))) (replies_same s r x y same.0)
    (go (replies_to s r x) (find_same s r xs ys same.1))
  where
    go : (b : Bool) → SameFound (find (replies_to s r) xs) (find (replies_to s r) ys)
        → SameFound (cond b (Some x) (find (replies_to s r) xs)) (cond b (Some y) (find (replies_to s r) ys))
    go true rest = same.0
    go false rest = rest

due_of : (r : ResponderId) (o p : Option AutoReply) → SameFound o p
    → SameDue (option_map {U = Due} (λ (reply : AutoReply). (r, reply)) o) (option_map {U = Due} (λ (reply : AutoReply). (r, reply)) p)
due_of r None None same = tt
due_of r None (Some y) same = absurd same
due_of r (Some x) None same = absurd same
due_of r (Some x) (Some y) same = (refl, same)

due_for_same : (xs ys : List AutoReply) (s : SeqId) (rs : List ResponderId) → SameReplies xs ys → SameDue (due_for xs s rs) (due_for ys s rs)
due_for_same xs ys s [] same = tt
due_for_same xs ys s (r ∷ rs) same = due_of r (find (replies_to s r) xs) (find (replies_to s r) ys) (find_same s r xs ys same)

due_same : (wire : Wire) (xs ys : List AutoReply) (past : List Event) → SameReplies xs ys → SameDue (due wire xs past) (due wire ys past)
due_same wire xs ys [] same = tt
due_same wire xs ys (event ∷ past) same = due_for_same xs ys event.seq (responders_handed wire event.told event.asked) same

is_due_same : (d e : Option Due) → SameDue d e → is_some d ≡ is_some e
is_due_same None None same = refl
is_due_same None (Some e) same = absurd same
is_due_same (Some d) None same = absurd same
is_due_same (Some d) (Some e) same = refl

responders_same : (d e : Option Due) (rs : List ResponderId) → SameDue d e → responders_named d rs ≡ responders_named e rs
responders_same None None rs same = refl
responders_same None (Some e) rs same = absurd same
responders_same (Some d) None rs same = absurd same
responders_same (Some d) (Some e) rs same = refl

replied_same : (d e : Due) → d.0 ≡ e.0 → SameReply d.1 e.1 → replied d ≡ replied e
replied_same (r, x) (q, y) is same =
    ap (λ (s : ResponderId). asks.Answer s (outgoing x.prepared [] [] None)) is
    ∙ ap (λ (o : Outgoing). asks.Answer q o) (outgoing_same x.prepared y.prepared [] [] None same.prepared)

reply_first_same : (d e : Option Due) (o p : Option Asked) → SameDue d e → o ≡ p → reply_first d o ≡ reply_first e p
reply_first_same None None o p same is = is
reply_first_same None (Some e) o p same is = absurd same
reply_first_same (Some d) None o p same is = absurd same
reply_first_same (Some d) (Some e) o p same is = ap Some (replied_same d e same.0 same.1)

reply_or_same : (d e : Option Due) (o : Option Next) → SameDue d e → reply_or d o ≡ reply_or e o
reply_or_same None None o same = refl
reply_or_same None (Some e) o same = absurd same
reply_or_same (Some d) None o same = absurd same
reply_or_same (Some d) (Some e) o same =
    ap {A = SeqId} {B = Option Next} (λ s. Some (s, replied d)) same.1.seq
    ∙ ap {A = Asked} {B = Option Next} (λ a. Some (e.1.seq, a)) (replied_same d e same.0 same.1)

done_same : (wire : Wire) (xs ys : List AutoReply) (past : List Event) → SameReplies xs ys → lines_done wire xs past ≡ lines_done wire ys past
done_same wire xs ys [] same = refl
done_same wire xs ys (event ∷ past) same =
    ap (λ (b : Bool). if b then lines_done wire xs past else lines_done wire xs past + 1)
    (is_due_same (due wire xs past) (due wire ys past) (due_same wire xs ys past same))
    ∙ ap (λ (n : ℕ). if is_some (due wire ys past) then n else n + 1) (done_same wire xs ys past same)

-- ## Lines

abbrev SameAt : Option Line → Option Line → Type 0
SameAt None None = Unit {0}
SameAt (Some l) (Some m) = SameLine l m
SameAt _ _ = ⊥

at_same : (ls ms : List Line) (i : ℕ) → SameLines ls ms → SameAt (slice_get ls i) (slice_get ms i)
at_same [] [] i same = tt
at_same [] (m ∷ ms) i same = absurd same
at_same (l ∷ ls) [] i same = absurd same
at_same (l ∷ ls) (m ∷ ms) zero same = same.0
at_same (l ∷ ls) (m ∷ ms) (suc i) same = at_same ls ms i same.1

-- of two lists of lines those that pass a test
filter_same : (test : Line → Bool) → ((l m : Line) → SameLine l m → test l ≡ test m) → (ls ms : List Line) → SameLines ls ms
    → SameLines (filter test ls) (filter test ms)
filter_same test passes [] [] same = tt
filter_same test passes [] (m ∷ ms) same = absurd same
filter_same test passes (l ∷ ls) [] same = absurd same
filter_same test passes (l ∷ ls) (m ∷ ms) same =
    subst (λ (b : Bool). SameLines (filter test (l ∷ ls)) (cond b (m ∷ filter test ms) (filter test ms))) (passes l m same.0)
    (go (test l) (filter_same test passes ls ms same.1))
  where
    go : (b : Bool) → SameLines (filter test ls) (filter test ms)
        → SameLines (cond b (l ∷ filter test ls) (filter test ls)) (cond b (m ∷ filter test ms) (filter test ms))
    go true rest = (same.0, rest)
    go false rest = rest

-- what a line asks
line_asked : (names : Named) (l m : Line) → SameLine l m → asked_by names l ≡ asked_by names m
line_asked names l m same =
    ap (λ (n : ℕ). or_skip n (asked_for names l.command)) same.number
    ∙ ap (or_skip m.number) (asked_same names l.command m.command same.command)

lines_asked : (names : Named) (o p : Option Line) → SameAt o p → option_map (asked_by names) o ≡ option_map (asked_by names) p
lines_asked names None None same = refl
lines_asked names None (Some m) same = absurd same
lines_asked names (Some l) None same = absurd same
lines_asked names (Some l) (Some m) same = ap Some (line_asked names l m same)

line_at_same : (wire : Wire) (xs ys : List AutoReply) (ls ms : List Line) (past : List Event) → SameReplies xs ys → SameLines ls ms
    → SameAt (line_at wire xs ls past) (line_at wire ys ms past)
line_at_same wire xs ys ls ms past autos lines =
    subst (λ (b : Bool). SameAt (line_at wire xs ls past) (if b then None else slice_get ms (lines_done wire ys past)))
    (is_due_same (due wire xs past) (due wire ys past) (due_same wire xs ys past autos))
    (subst (λ (n : ℕ). SameAt (line_at wire xs ls past) (if is_some (due wire xs past) then None else slice_get ms n))
    (done_same wire xs ys past autos) (go (is_some (due wire xs past))))
  where
    go : (b : Bool) → SameAt (if b then None else slice_get ls (lines_done wire xs past)) (if b then None else slice_get ms (lines_done wire xs past))
    go true = tt
    go false = at_same ls ms (lines_done wire xs past) lines

-- ## Names

set_same : (l m : Option Line) → SameAt l m → set_by l ≡ set_by m
set_same None None same = refl
set_same None (Some m) same = absurd same
set_same (Some l) None same = absurd same
set_same (Some l) (Some m) same = sets_same l.command m.command same.command

-- the names that a line spent, where it did
abbrev spends : (NameId → Option Thing) → Event → Option Line → List NameId × List NameId × List NameId
spends stands event line =
    (spent_by (handles_spent stands) line event, spent_by (pendings_spent stands) line event, spent_by (responders_spent stands) line event)

abbrev when_done : Bool → List NameId × List NameId × List NameId → List NameId × List NameId × List NameId
when_done b all = (if b then all.0 else [], if b then all.1 else [], if b then all.2 else [])

spends_same : (stands : NameId → Option Thing) (event : Event) (l m : Option Line) → SameAt l m → spends stands event l ≡ spends stands event m
spends_same stands event None None same = refl
spends_same stands event None (Some m) same = absurd same
spends_same stands event (Some l) None same = absurd same
spends_same stands event (Some l) (Some m) same =
    ap (when_done (is_done event.told)) (spent_same stands event.asked l.command m.command same.command)

-- the names behind an event, by what its line sets and spent, and by the responders that come under names
abbrev after : Event → Named → List NameId → List NameId × List NameId × List NameId → List ResponderId → Named
after event before set all rs = record {
  stands = then_held set (handed event.told) [] before.stands;
  handle = then_held set (handed event.told) all.0 before.handle;
  pending = then_held (drop (length (handed event.told)) set) (pendings_handed event.told) all.1 before.pending;
  responder = then_held (drop (length (handed event.told) + length (pendings_handed event.told)) set) rs all.2 before.responder;
}

after_same : (wire : Wire) (l m : Option Line) (d e : Option Due) (event : Event) (before : Named) → SameAt l m → SameDue d e
    → named_after wire l d event before ≡ named_after wire m e event before
after_same wire l m d e event before line found =
    let rs = responders_handed wire event.told event.asked in
    ap (λ (set : List NameId). after event before set (spends before.stands event l) (responders_named d rs)) (set_same l m line)
    ∙ ap (λ (all : List NameId × List NameId × List NameId). after event before (set_by m) all (responders_named d rs))
    (spends_same before.stands event l m line)
    ∙ ap (after event before (set_by m) (spends before.stands event m)) (responders_same d e rs found)

named_same : (wire : Wire) (xs ys : List AutoReply) (ls ms : List Line) (first other : Named) (past : List Event) → SameReplies xs ys → SameLines ls ms
    → first ≡ other → named wire xs ls first past ≡ named wire ys ms other past
named_same wire xs ys ls ms first other [] autos lines is = is
named_same wire xs ys ls ms first other (event ∷ past) autos lines is =
    after_same wire (line_at wire xs ls past) (line_at wire ys ms past) (due wire xs (event ∷ past)) (due wire ys (event ∷ past)) event
    (named wire xs ls first past) (line_at_same wire xs ys ls ms past autos lines) (due_same wire xs ys (event ∷ past) autos)
    ∙ ap (named_after wire (line_at wire ys ms past) (due wire ys (event ∷ past)) event) (named_same wire xs ys ls ms first other past autos lines is)

-- behind a join, by who joins, whether it is to this sequence, and the names of the ends
abbrev placed : SeqId → Event → Named → SeqId → Bool → List NameId → Named
placed s event before by to set = record {
  stands = then_held set (handed event.told) [] before.stands;
  handle = λ n. or_before
      (or_before (came_to (is_seq s by) (take 1 set) (take 1 (handed event.told)) n) (came_to to (drop 1 set) (drop 1 (handed event.told)) n))
      (before.handle n);
  pending = before.pending;
  responder = before.responder;
}

joined_after_same : (s : SeqId) (l m : Option Line) (event : Event) (before : Named) → SameAt l m
    → joined_after s l event before ≡ joined_after s m event before
joined_after_same s None None event before same = refl
joined_after_same s None (Some m) event before same = absurd same
joined_after_same s (Some l) None event before same = absurd same
joined_after_same s (Some l) (Some m) event before same =
    ap (λ (by : SeqId). placed s event before by (joins_to s l.command) (sets l.command)) same.seq
    ∙ ap (λ (to : Bool). placed s event before m.seq to (sets l.command)) (joins_to_same s l.command m.command same.command)
    ∙ ap (placed s event before m.seq (joins_to s m.command)) (sets_same l.command m.command same.command)

joined_same : (s : SeqId) (ls ms : List Line) (past : List Event) → SameLines ls ms → joined s ls past ≡ joined s ms past
joined_same s ls ms [] same = refl
joined_same s ls ms (event ∷ past) same =
    joined_after_same s (slice_get ls (length past)) (slice_get ms (length past)) event (joined s ls past) (at_same ls ms (length past) same)
    ∙ ap (joined_after s (slice_get ms (length past)) event) (joined_same s ls ms past same)

-- ## Parts of a history

asks_next : (next other : List Event → Option Asked) → ((own : List Event) → next own ≡ other own) → (own : List Event) → AsksNext next own → AsksNext other own
asks_next next other same [] asks_so = tt
asks_next next other same (event ∷ own) asks_so = (sym (same own) ∙ asks_so.0, asks_next next other same own asks_so.1)

asks_all : (next other : List Event → Option Asked) → ((own : List Event) → next own ≡ other own) → (own : List Event) → AsksAll next own → AsksAll other own
asks_all next other same own all = record { asks = asks_next next other same own all.asks; over = sym (same own) ∙ all.over }

goes_on : (next other : List Event → Option Next) → ((own : List Event) → next own ≡ other own) → (own : List Event) → GoesOn next own → GoesOn other own
goes_on next other same [] goes = tt
goes_on next other same (event ∷ own) goes = (sym (same own) ∙ goes.0, goes_on next other same own goes.1)

is_part : (next other : List Event → Option Next) (before now : List Event) → ((own : List Event) → next own ≡ other own) → IsPart next before now
    → IsPart other before now
is_part next other before now same part = record {
  own = part.own;
  whole = part.whole;
  asks = goes_on next other same part.own part.asks;
  over = sym (same part.own) ∙ part.over;
}

-- ## Scripts

module _ (wire : Wire) (a b : Script) (same : SameScript a b) where
  own_same : (s : SeqId) (l m : Line) → SameLine l m → is_own s l ≡ is_own s m
  own_same s l m is =
      ap (λ (t : SeqId). is_seq s t && not (is_join l.command)) is.seq
      ∙ ap (λ (j : Bool). is_seq s m.seq && not j) (is_join_same l.command m.command is.command)

  lines_same : (s : SeqId) → SameLines (lines_of a s) (lines_of b s)
  lines_same s = filter_same (is_own s) (own_same s) a.lines b.lines same.lines

  joins_same : SameLines (joins_of a) (joins_of b)
  joins_same = filter_same (λ (line : Line). is_join line.command) (λ l m is. is_join_same l.command m.command is.command) a.lines b.lines same.lines

  -- the same join is next
  next_join_same : (own : List Event) → next_join a own ≡ next_join b own
  next_join_same own =
      by (slice_get (joins_of a) (length own)) (slice_get (joins_of b) (length own)) (at_same (joins_of a) (joins_of b) (length own) joins_same)
    where
      by : (o p : Option Line) → SameAt o p → option_map joins_by o ≡ option_map joins_by p
      by None None is = refl
      by None (Some m) is = absurd is
      by (Some l) None is = absurd is
      by (Some l) (Some m) is =
          ap {A = SeqId} {B = Option Next} (λ s. Some (s, asked_by unnamed l)) is.seq
          ∙ ap {A = Asked} {B = Option Next} (λ x. Some (m.seq, x)) (line_asked unnamed l m is)

  -- a sequence asks the same next
  next_same : (joins : List Event) (s : SeqId) (own : List Event) → next_of wire a joins s own ≡ next_of wire b joins s own
  next_same joins s own =
      let names : names_of wire a joins s own ≡ names_of wire b joins s own =
      named_same wire a.autos b.autos (lines_of a s) (lines_of b s) (joined s (joins_of a) joins) (joined s (joins_of b) joins) own same.autos (lines_same s)
      (joined_same s (joins_of a) (joins_of b) joins joins_same) in
      reply_first_same (due wire a.autos own) (due wire b.autos own)
      (option_map (asked_by (names_of wire a joins s own)) (line_at wire a.autos (lines_of a s) own))
      (option_map (asked_by (names_of wire b joins s own)) (line_at wire b.autos (lines_of b s) own))
      (due_same wire a.autos b.autos own same.autos)
      (ap (λ (n : Named). option_map (asked_by n) (line_at wire a.autos (lines_of a s) own)) names
      ∙ lines_asked (names_of wire b joins s own) (line_at wire a.autos (lines_of a s) own) (line_at wire b.autos (lines_of b s) own)
      (line_at_same wire a.autos b.autos (lines_of a s) (lines_of b s) own same.autos (lines_same s)))

  -- and so does a drain
  next_take_same : (before own : List Event) → next_take wire a.autos before own ≡ next_take wire b.autos before own
  next_take_same before own =
      reply_or_same (due wire a.autos (own ++ before)) (due wire b.autos (own ++ before))
      (option_map {U = Next} (λ (turn : SeqId × EndId). (turn.0, asks.Take turn.1)) (ready wire (own ++ before)))
      (due_same wire a.autos b.autos (own ++ before) same.autos)

-- a history is of a script that is the same, in whatever order
pub past_same : (schema : Schema) (a b : Script) (past : List Event) → SameScript a b → PastInSomeOrder schema a past → PastInSomeOrder schema b past
past_same schema a b past same is = record {
  after_joins = is.after_joins;
  middle = is.middle;
  joins = is_part (next_join a) (next_join b) [] is.after_joins (next_join_same (wire_of schema) a b same) is.joins;
  lines = λ s there. asks_all (next_of (wire_of schema) a is.after_joins s) (next_of (wire_of schema) b is.after_joins s)
      (next_same (wire_of schema) a b same is.after_joins s) (own_of s is.middle) (is.lines s (subst (λ (n : ℕ). s.0 < n) (sym same.seqs) there));
  drain = is_part (next_take (wire_of schema) a.autos (is.middle ++ is.after_joins)) (next_take (wire_of schema) b.autos (is.middle ++ is.after_joins))
      (is.middle ++ is.after_joins) past (next_take_same (wire_of schema) a b same (is.middle ++ is.after_joins)) is.drain;
}

pub history_same : (schema : Schema) (a b : Script) (history : List Event) → SameScript a b → InSomeOrder schema a history → InSomeOrder schema b history
history_same schema a b history same is = past_same schema a b (reverse history) same is
