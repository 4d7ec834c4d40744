-- Commands at ends, however the ends are kept.
use Rattle.std.proofs.Common.{◌≡◌, ℕ, ◌+◌, ◌<◌, Bool, true, false, not, List, [], ◌∷◌, ◌++◌, length, get_or, take, refl, sym, ap, subst, ◌∙◌, append_assoc}
use Rattle.std.specs.Prelude.{◌==◌, ◌&&◌, nat_le, is_some, Option, Some, None, Result, Ok, Err, OnOk, IfErr, if◌then◌else◌}
use Rattle.std.specs.Option.{option_map}
use Rattle.std.proofs.lemmas.List.{take_more}
use Rattle.mj_base.specs.declared.ids.EndId.{EndId}
use Rattle.mj_base.specs.declared.limits.TheConstants.{MAX_UNREAD_MESSAGES}
use Rattle.handle_table.specs.Numbered.{listed, changed_at}
use Rattle.handle_table.specs.declared.thing.Thing.{Thing}
use Rattle.handle_table.specs.Things.{same_end}
use Rattle.handle_table.proofs.ThingsLemmas.{same_end-true}
use Rattle.pipe_runs.specs.Commands.{Stay, Turns, after, after_all, left, named, replies_to, told}
use Rattle.message_pipe.specs.Ends.{end_of, peer_of, unread_of, with_message}
use Rattle.message_pipe.specs.Mail.{front_of, weighs}
use Rattle.message_pipe.specs.declared.message.Message.{Message}
use Rattle.message_pipe.specs.declared.pipe_end.PipeEnd.{PipeEnd}
use Rattle.pipe_runs.specs.declared.run.QueueCommand.{QueueCommand}
use Rattle.pipe_runs.specs.declared.run.QueueCommand.TheVariants.{Write, Read, Close}
use Rattle.pipe_runs.specs.declared.run.QueueReply.{QueueReply}
use Rattle.pipe_runs.specs.declared.run.QueueReply.TheVariants as replies
use Rattle.message_pipe.proofs.Changing.{each}

abbrev message_with : List ℕ → List Thing → Bool → Message
message_with bytes handles emitted = record { bytes = bytes; handles = handles; emitted = emitted }

-- an end has a peer where it is there
pub peer_some : (o : Option PipeEnd) → is_some (peer_of o) ≡ is_some o
peer_some None = refl
peer_some (Some end) = refl

-- one end of several lists changed, by its name
pub turned : {E : Type 0} (r : Result Unit E) (end : EndId) (f : PipeEnd → PipeEnd) (old new : List (List PipeEnd))
    → OnOk r ((s : ℕ) → listed new s ≡ (if end.seq == s then changed_at f end.serial (listed old s) else listed old s))
    → OnOk r ((x : EndId) → end_of new x ≡ (if same_end end x then option_map f (end_of old x) else end_of old x))
turned (Ok u) end f old new e = each end f old new e
turned (Err y) end f old new e = tt

pub stayed : (r : Result Unit Message) (m : Message) (old new : List (List PipeEnd)) → IfErr r (λ back. (back ≡ m) × (new ≡ old))
    → IfErr r (λ back. (back ≡ m) × ((x : EndId) → end_of new x ≡ end_of old x))
stayed (Ok u) m old new h = tt
stayed (Err back) m old new h = (h.0, λ x. ap (λ (ends : List (List PipeEnd)). end_of ends x) h.1)

-- a message of the same parts is the same
pub same_message : (m : Message) (bytes : List ℕ) (handles : List Thing) → bytes ≡ m.bytes → handles ≡ m.handles
    → ◌≡◌ {A = Message} (record { bytes = bytes; handles = handles; emitted = m.emitted }) m
same_message m bytes handles e h = ap (λ (b : List ℕ). message_with b handles m.emitted) e ∙ ap (λ (hs : List Thing). message_with m.bytes hs m.emitted) h

-- where no end is, nothing is done
pub not_there : (command : QueueCommand) (o : Option PipeEnd) → is_some o ≡ false → left command o ≡ o
not_there (Write end message) None h = refl
not_there (Read end) None h = refl
not_there (Close end) None h = refl
not_there command (Some before) h = cc

pub unwritten : (end : EndId) (message : Message) (o : Option PipeEnd) → is_some o ≡ false → replies.NoEnd ≡ told (Write end message) o
unwritten end message None h = refl
unwritten end message (Some before) h = cc

pub unread : (end : EndId) (o : Option PipeEnd) → is_some o ≡ false → replies.NoEnd ≡ told (Read end) o
unread end None h = refl
unread end (Some before) h = cc

-- what a refused message and one that isn't are told, and leave
pub full_told : (end : EndId) (message : Message) (o : Option PipeEnd) → is_some o ≡ true
    → (not message.emitted && nat_le MAX_UNREAD_MESSAGES (weighs (unread_of o))) ≡ true → replies.Full ≡ told (Write end message) o
full_told end message None h f = cc
full_told end message (Some before) h f = sym (ap (λ (b : Bool). if b then replies.Full else replies.Written) f)

pub full_left : (end : EndId) (message : Message) (o : Option PipeEnd) → is_some o ≡ true
    → (not message.emitted && nat_le MAX_UNREAD_MESSAGES (weighs (unread_of o))) ≡ true → left (Write end message) o ≡ o
full_left end message None h f = refl
full_left end message (Some before) h f = ap (λ (b : Bool). Some (if b then before else with_message message before)) f

pub room_told : (end : EndId) (message : Message) (o : Option PipeEnd) → is_some o ≡ true
    → (not message.emitted && nat_le MAX_UNREAD_MESSAGES (weighs (unread_of o))) ≡ false → replies.Written ≡ told (Write end message) o
room_told end message None h f = cc
room_told end message (Some before) h f = sym (ap (λ (b : Bool). if b then replies.Full else replies.Written) f)

pub room_left : (end : EndId) (message : Message) (o : Option PipeEnd)
    → (not message.emitted && nat_le MAX_UNREAD_MESSAGES (weighs (unread_of o))) ≡ false
    → option_map (with_message message) o ≡ left (Write end message) o
room_left end message None f = refl
room_left end message (Some before) f = sym (ap (λ (b : Bool). Some (if b then before else with_message message before)) f)

pub read_told : (end : EndId) (o : Option PipeEnd) → is_some o ≡ true → replies.Got (front_of (unread_of o)) ≡ told (Read end) o
read_told end None h = cc
read_told end (Some before) h = refl

-- what leaves the end that is named leaves all
pub unmoved : (command : QueueCommand) (ends : EndId → Option PipeEnd) → left command (ends (named command)) ≡ ends (named command)
    → (x : EndId) → ends x ≡ after command ends x
unmoved command ends same x = go (same_end (named command) x) refl
  where
    go : (b : Bool) → same_end (named command) x ≡ b → ends x ≡ (if b then left command (ends x) else ends x)
    go true e = sym (subst (λ (y : EndId). left command (ends y) ≡ ends y) (same_end-true (named command) x e) same)
    go false e = refl

-- an end that turns is what its command leaves
pub moved : (command : QueueCommand) (f : PipeEnd → PipeEnd) (old new : EndId → Option PipeEnd) → Turns (named command) f old new
    → option_map f (old (named command)) ≡ left command (old (named command)) → (x : EndId) → new x ≡ after command old x
moved command f old new e is x = e x ∙ go (same_end (named command) x) refl
  where
    go : (b : Bool) → same_end (named command) x ≡ b → (if b then option_map f (old x) else old x) ≡ (if b then left command (old x) else old x)
    go true q = subst (λ (y : EndId). option_map f (old y) ≡ left command (old y)) (same_end-true (named command) x q) is
    go false q = refl

-- ends that are the same are told, and leave, the same
same_after : (command : QueueCommand) (old new : EndId → Option PipeEnd) → Stay old new → (x : EndId) → after command new x ≡ after command old x
same_after command old new e x = ap (λ (o : Option PipeEnd). if same_end (named command) x then left command o else o) (e x)

same_told : (command : QueueCommand) (old new : EndId → Option PipeEnd) → Stay old new → told command (new (named command)) ≡ told command (old (named command))
same_told command old new e = ap (λ (o : Option PipeEnd). told command o) (e (named command))

same_replies : (commands : List QueueCommand) (old new : EndId → Option PipeEnd) → Stay old new → replies_to commands new ≡ replies_to commands old
same_replies [] old new e = refl
same_replies (command ∷ commands) old new e =
    ap (λ (reply : QueueReply). reply ∷ replies_to commands (after command new)) (same_told command old new e)
    ∙ ap (λ (rest : List QueueReply). told command (old (named command)) ∷ rest)
    (same_replies commands (after command old) (after command new) (same_after command old new e))

same_all : (commands : List QueueCommand) (old new : EndId → Option PipeEnd) → Stay old new → (x : EndId) → after_all commands new x ≡ after_all commands old x
same_all [] old new e x = e x
same_all (command ∷ commands) old new e x = same_all commands (after command old) (after command new) (same_after command old new e) x

-- both at once
pub runs_alike : (commands : List QueueCommand) (one other : EndId → Option PipeEnd) → Stay one other
    → (replies_to commands other ≡ replies_to commands one) × Stay (after_all commands one) (after_all commands other)
runs_alike commands one other e = (same_replies commands one other e, λ x. same_all commands one other e x)

-- one command more
pub replied_more : (commands rest : List QueueCommand) (command : QueueCommand) (reply : QueueReply) (told_now whole : List QueueReply)
    (old new : EndId → Option PipeEnd) → commands ≡ command ∷ rest → reply ≡ told command (old (named command)) → Stay (after command old) new
    → told_now ++ replies_to commands old ≡ whole → (told_now ++ reply ∷ []) ++ replies_to rest new ≡ whole
replied_more commands rest command reply told_now whole old new is says e so =
    append_assoc told_now (reply ∷ []) (replies_to rest new)
    ∙ (ap (λ (r : QueueReply). told_now ++ r ∷ replies_to rest new) says
    ∙ (ap (λ (rs : List QueueReply). told_now ++ told command (old (named command)) ∷ rs) (same_replies rest (after command old) new e)
    ∙ (ap (λ (cs : List QueueCommand). told_now ++ replies_to cs old) (sym is) ∙ so)))

pub after_more : (commands rest : List QueueCommand) (command : QueueCommand) (first old new : EndId → Option PipeEnd) (all : List QueueCommand)
    → commands ≡ command ∷ rest → Stay (after command old) new → ((x : EndId) → after_all commands old x ≡ after_all all first x) → (x : EndId)
    → after_all rest new x ≡ after_all all first x
after_more commands rest command first old new all is e so x = same_all rest (after command old) new e x
    ∙ (ap (λ (cs : List QueueCommand). after_all cs old x) (sym is) ∙ so x)

after-snoc : (commands : List QueueCommand) (command : QueueCommand) (ends : EndId → Option PipeEnd) (x : EndId)
    → after_all (commands ++ command ∷ []) ends x ≡ after command (after_all commands ends) x
after-snoc [] command ends x = refl
after-snoc (first ∷ commands) command ends x = after-snoc commands command (after first ends) x

-- what is done so far, with one command more
pub did_more : (all : List QueueCommand) (n : ℕ) (command : QueueCommand) (first old new : EndId → Option PipeEnd) → n < length all
    → command ≡ get_or all n command → Stay (after command old) new → ((x : EndId) → old x ≡ after_all (take n all) first x) → (x : EndId)
    → new x ≡ after_all (take (n + 1) all) first x
did_more all n command first old new h is e so x =
    let more : take (n + 1) all ≡ take n all ++ command ∷ [] = take_more all n command h
    ∙ ap (λ (c : QueueCommand). take n all ++ c ∷ []) (sym is) in
    e x ∙ (same_after command (after_all (take n all) first) old so x
    ∙ sym (ap (λ (cs : List QueueCommand). after_all cs first x) more ∙ after-snoc (take n all) command first x))
