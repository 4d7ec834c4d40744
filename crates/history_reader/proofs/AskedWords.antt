-- The words of commands, and what stands behind the word of each.
use Rattle.std.proofs.Common.{◌≡◌, ℕ, ◌++◌, ◌∷◌, [], List, Option, true, false, refl, sym, ◌∙◌, subst, append_assoc}
use Rattle.std.proofs.Common.{ℤ, Some, None}
use Rattle.std.specs.Prelude.{codes, decimal}
use Rattle.mj_schema.specs.declared.schema.Schema.{Schema}
use Rattle.handle_table.specs.declared.thing.Thing.{Thing}
use Rattle.bind_model.specs.declared.asked.Asked.{Asked}
use Rattle.bind_model.specs.declared.asked.Asked.TheVariants as askeds
use Rattle.bind_model.specs.declared.asked.Notice.{Notice}
use Rattle.bind_model.specs.declared.asked.Notice.TheVariants as notes
use Rattle.bind_model.specs.declared.flow.Flow.{Flow}
use Rattle.bind_model.specs.declared.flow.Flow.TheVariants as flows
use Rattle.mj_base.specs.declared.ids.EndId.{EndId}
use Rattle.byte_rules.specs.Among.{IsAmong}
use Rattle.history_text.specs.History.{end_text, thing_text, endpoint_text, pending_text, responder_text, things_text, hex_text, closing_text, outgoing_text}
use Rattle.history_text.specs.History.{at_text, asked_text}
use Rattle.history_text.specs.Names.{interface_name}
use Rattle.history_text.specs.Words.{side_word, sort_word}
use Rattle.line_parts.specs.Signs.{blank}
use Rattle.line_parts.specs.Printable.{AreAll}
use Rattle.line_parts.proofs.BothWays.{Is}
use Rattle.line_parts.proofs.KeywordTexts.{among_at}
use Rattle.history_reader.specs.Commands.{command_words}
use Rattle.history_reader.specs.Printable.{IsAsked}
use Rattle.history_reader.specs.declared.commands.CommandWord.{CommandWord}
use Rattle.history_reader.specs.declared.commands.CommandWord.TheVariants as commands
use Rattle.history_reader.specs.declared.flows.FlowWord.{FlowWord}
use Rattle.history_reader.specs.declared.flows.FlowWord.TheVariants as moves
use Rattle.history_reader.specs.declared.notices.NoticeWord.{NoticeWord}
use Rattle.history_reader.specs.declared.notices.NoticeWord.TheVariants as notices
use Rattle.history_reader.proofs.AskedForms.{arrow_text, behind_text}
use Rattle.history_reader.proofs.AtTexts.{has_moment, behind_at}

-- the text of the word of a command
abbrev pub command_text : CommandWord → List ℕ
command_text commands.Pipe = codes "pipe"
command_text commands.Join = codes "join"
command_text commands.Mint = codes "mint"
command_text commands.Bind = codes "bind"
command_text commands.Associate = codes "associate"
command_text commands.Attach = codes "attach"
command_text (commands.Call false) = codes "call"
command_text (commands.Call true) = codes "call-at"
command_text (commands.Answer false) = codes "answer"
command_text (commands.Answer true) = codes "answer-at"
command_text commands.Raw = codes "raw"
command_text commands.Take = codes "take"
command_text commands.Close = codes "close"
command_text (commands.Notify notices.Query) = codes "query"
command_text (commands.Notify notices.Require) = codes "require"
command_text (commands.Notify notices.Flush) = codes "flush"
command_text commands.Pause = codes "pause"
command_text commands.Data = codes "data"
command_text (commands.Flow (moves.Put false)) = codes "put"
command_text (commands.Flow (moves.Put true)) = codes "put-all"
command_text (commands.Flow (moves.Get false)) = codes "get"
command_text (commands.Flow (moves.Get true)) = codes "get-all"
command_text (commands.Flow moves.BeginPut) = codes "begin-put"
command_text (commands.Flow moves.EndPut) = codes "end-put"
command_text (commands.Flow moves.BeginGet) = codes "begin-get"
command_text (commands.Flow moves.EndGet) = codes "end-get"
command_text commands.Skip = codes "skip"

pub all_commands : (word : CommandWord) → IsAmong (word, command_text word) command_words
all_commands commands.Pipe = among_at command_words 0 (commands.Pipe, codes "pipe") refl
all_commands commands.Join = among_at command_words 1 (commands.Join, codes "join") refl
all_commands commands.Mint = among_at command_words 2 (commands.Mint, codes "mint") refl
all_commands commands.Bind = among_at command_words 3 (commands.Bind, codes "bind") refl
all_commands commands.Associate = among_at command_words 4 (commands.Associate, codes "associate") refl
all_commands commands.Attach = among_at command_words 5 (commands.Attach, codes "attach") refl
all_commands (commands.Call false) = among_at command_words 6 ((commands.Call false), codes "call") refl
all_commands (commands.Call true) = among_at command_words 7 ((commands.Call true), codes "call-at") refl
all_commands (commands.Answer false) = among_at command_words 8 ((commands.Answer false), codes "answer") refl
all_commands (commands.Answer true) = among_at command_words 9 ((commands.Answer true), codes "answer-at") refl
all_commands commands.Raw = among_at command_words 10 (commands.Raw, codes "raw") refl
all_commands commands.Take = among_at command_words 11 (commands.Take, codes "take") refl
all_commands commands.Close = among_at command_words 12 (commands.Close, codes "close") refl
all_commands (commands.Notify notices.Query) = among_at command_words 13 ((commands.Notify notices.Query), codes "query") refl
all_commands (commands.Notify notices.Require) = among_at command_words 14 ((commands.Notify notices.Require), codes "require") refl
all_commands (commands.Notify notices.Flush) = among_at command_words 15 ((commands.Notify notices.Flush), codes "flush") refl
all_commands commands.Pause = among_at command_words 16 (commands.Pause, codes "pause") refl
all_commands commands.Data = among_at command_words 17 (commands.Data, codes "data") refl
all_commands (commands.Flow (moves.Put false)) = among_at command_words 18 ((commands.Flow (moves.Put false)), codes "put") refl
all_commands (commands.Flow (moves.Put true)) = among_at command_words 19 ((commands.Flow (moves.Put true)), codes "put-all") refl
all_commands (commands.Flow (moves.Get false)) = among_at command_words 20 ((commands.Flow (moves.Get false)), codes "get") refl
all_commands (commands.Flow (moves.Get true)) = among_at command_words 21 ((commands.Flow (moves.Get true)), codes "get-all") refl
all_commands (commands.Flow moves.BeginPut) = among_at command_words 22 ((commands.Flow moves.BeginPut), codes "begin-put") refl
all_commands (commands.Flow moves.EndPut) = among_at command_words 23 ((commands.Flow moves.EndPut), codes "end-put") refl
all_commands (commands.Flow moves.BeginGet) = among_at command_words 24 ((commands.Flow moves.BeginGet), codes "begin-get") refl
all_commands (commands.Flow moves.EndGet) = among_at command_words 25 ((commands.Flow moves.EndGet), codes "end-get") refl
all_commands commands.Skip = among_at command_words 26 (commands.Skip, codes "skip") refl

-- the list of words has each with its text
abbrev pub each_command : AreAll (λ (entry : CommandWord × List ℕ). entry.1 ≡ command_text entry.0) command_words
each_command = (
  refl,
  (
    refl,
    (
      refl,
      (
        refl,
        (
          refl,
          (
            refl,
            (
              refl,
              (
                refl,
                (
                  refl,
                  (
                    refl,
                    (
                      refl,
                      (
                        refl,
                        (
                          refl,
                          (
                            refl,
                            (
                              refl,
                              (
                                refl,
                                (
                                  refl,
                                  (
                                    refl,
                                    (
                                      refl,
                                      (refl, (refl, (refl, (refl, (refl, (refl, (refl, (refl, tt)))))))),
                                    ),
                                  ),
                                ),
                              ),
                            ),
                          ),
                        ),
                      ),
                    ),
                  ),
                ),
              ),
            ),
          ),
        ),
      ),
    ),
  ),
)

-- the word that a command begins with
abbrev pub notice_word : Notice → NoticeWord
notice_word (notes.Query id) = notices.Query
notice_word (notes.Require id version) = notices.Require
notice_word notes.Flush = notices.Flush

-- the word of a command about a data pipe
abbrev pub flow_word : Flow → FlowWord
flow_word (flows.Put bytes all) = moves.Put all
flow_word (flows.Get n all) = moves.Get all
flow_word flows.BeginPut = moves.BeginPut
flow_word (flows.EndPut bytes) = moves.EndPut
flow_word flows.BeginGet = moves.BeginGet
flow_word (flows.EndGet n) = moves.EndGet

-- the word of a command
abbrev pub word_of : Asked → CommandWord
word_of askeds.Pipe = commands.Pipe
word_of (askeds.Join t) = commands.Join
word_of (askeds.Mint s) = commands.Mint
word_of (askeds.Bind x side n) = commands.Bind
word_of (askeds.Associate x side n) = commands.Associate
word_of (askeds.Attach p t) = commands.Attach
word_of (askeds.Call x id o) = commands.Call (has_moment o.moment)
word_of (askeds.Answer r o) = commands.Answer (has_moment o.moment)
word_of (askeds.Raw x bytes handles) = commands.Raw
word_of (askeds.Take x) = commands.Take
word_of (askeds.Close what) = commands.Close
word_of (askeds.Notify x notice) = commands.Notify (notice_word notice)
word_of (askeds.Pause x other flush) = commands.Pause
word_of (askeds.Data size) = commands.Data
word_of (askeds.Flow x flow) = commands.Flow (flow_word flow)
word_of (askeds.Skip line) = commands.Skip

-- what stands behind the word of a command about controls, and about data pipes
abbrev notice_after : EndId → Notice → List ℕ
notice_after x (notes.Query id) = blank ∷ (endpoint_text x id ++ arrow_text)
notice_after x (notes.Require id version) = blank ∷ (endpoint_text x id ++ ((blank ∷ decimal version) ++ arrow_text))
notice_after x notes.Flush = blank ∷ (end_text x ++ arrow_text)

-- the text behind the word of a command about a data pipe
abbrev flow_after : Thing → Flow → List ℕ
flow_after x (flows.Put bytes all) = blank ∷ (thing_text x ++ ((blank ∷ (hex_text bytes ++ blank ∷ [])) ++ behind_text))
flow_after x (flows.Get n all) = blank ∷ (thing_text x ++ ((blank ∷ decimal n) ++ arrow_text))
flow_after x flows.BeginPut = blank ∷ (thing_text x ++ arrow_text)
flow_after x (flows.EndPut bytes) = blank ∷ (thing_text x ++ ((blank ∷ (hex_text bytes ++ blank ∷ [])) ++ behind_text))
flow_after x flows.BeginGet = blank ∷ (thing_text x ++ arrow_text)
flow_after x (flows.EndGet n) = blank ∷ (thing_text x ++ ((blank ∷ decimal n) ++ arrow_text))

-- behind the word of a call and of an answer; where there is a moment, it stands between
call_word : (at : Option ℤ) (rest : List ℕ) → command_text (commands.Call (has_moment at)) ++ behind_at at (blank ∷ rest)
    ≡ codes "call" ++ (at_text at ++ (codes " " ++ rest))
call_word None rest = refl
call_word (Some moment) rest = refl

answer_word : (at : Option ℤ) (rest : List ℕ) → command_text (commands.Answer (has_moment at)) ++ behind_at at (blank ∷ rest)
    ≡ codes "answer" ++ (at_text at ++ (codes " " ++ rest))
answer_word None rest = refl
answer_word (Some moment) rest = refl

-- what is asked, by the word and what stands behind it
module _ (schema : Schema) where
  -- the text behind the word of a command
  abbrev pub after : Asked → List ℕ
  after askeds.Pipe = arrow_text
  after (askeds.Join t) = blank ∷ (decimal t.0 ++ arrow_text)
  after (askeds.Mint s) = blank ∷ (sort_word s ++ arrow_text)
  after (askeds.Bind x side n) = blank ∷ (thing_text x ++ ((blank ∷ (side_word side ++ blank ∷ interface_name schema n)) ++ arrow_text))
  after (askeds.Associate x side n) = blank ∷ (end_text x ++ ((blank ∷ (side_word side ++ blank ∷ interface_name schema n)) ++ arrow_text))
  after (askeds.Attach p t) = blank ∷ (pending_text p ++ ((blank ∷ decimal t.0) ++ arrow_text))
  after (askeds.Call x id o) = behind_at o.moment (blank ∷ (endpoint_text x id ++ ((blank ∷ outgoing_text schema o) ++ arrow_text)))
  after (askeds.Answer r o) = behind_at o.moment (blank ∷ (responder_text r ++ ((blank ∷ outgoing_text schema o) ++ arrow_text)))
  after (askeds.Raw x bytes handles) = blank ∷ (thing_text x ++ ((blank ∷ (hex_text bytes ++ blank ∷ [])) ++ (things_text handles ++ arrow_text)))
  after (askeds.Take x) = blank ∷ (end_text x ++ arrow_text)
  after (askeds.Close what) = blank ∷ (closing_text what ++ arrow_text)
  after (askeds.Notify x notice) = notice_after x notice
  after (askeds.Pause x other flush) = blank ∷ (end_text x ++ ((blank ∷ (end_text other ++ blank ∷ decimal flush)) ++ arrow_text))
  after (askeds.Data size) = blank ∷ (decimal size ++ arrow_text)
  after (askeds.Flow x flow) = flow_after x flow
  after (askeds.Skip line) = blank ∷ (decimal line ++ arrow_text)

  -- a command of this word
  abbrev pub Of : CommandWord → Asked → List ℕ → Type 0
  Of word a w = Is (λ (a : Asked). (word_of a ≡ word) × IsAsked schema a) after a w

  pub made : (word : CommandWord) (a what : Asked) (w : List ℕ) → a ≡ what → Of word what w → Of word a w
  made word a what w e h = subst (λ (a : Asked). Of word a w) (sym e) h

  -- the word and what stands behind it are the command and the arrow
  pub whole : (a : Asked) → command_text (word_of a) ++ after a ≡ asked_text schema a ++ arrow_text
  whole askeds.Pipe = refl
  whole (askeds.Join t) = refl
  whole (askeds.Mint s) = refl
  whole (askeds.Bind x side n) = simp append_assoc refl
  whole (askeds.Associate x side n) = simp append_assoc refl
  whole (askeds.Attach p t) = simp append_assoc refl
  whole (askeds.Call x id o) = call_word o.moment (endpoint_text x id ++ ((blank ∷ outgoing_text schema o) ++ arrow_text)) ∙ simp append_assoc refl
  whole (askeds.Answer r o) = answer_word o.moment (responder_text r ++ ((blank ∷ outgoing_text schema o) ++ arrow_text)) ∙ simp append_assoc refl
  whole (askeds.Raw x bytes handles) = simp append_assoc refl
  whole (askeds.Take x) = refl
  whole (askeds.Close what) = refl
  whole (askeds.Notify x (notes.Query id)) = refl
  whole (askeds.Notify x (notes.Require id version)) = simp append_assoc refl
  whole (askeds.Notify x notes.Flush) = refl
  whole (askeds.Pause x other flush) = simp append_assoc refl
  whole (askeds.Data size) = refl
  whole (askeds.Flow x (flows.Put bytes true)) = simp append_assoc refl
  whole (askeds.Flow x (flows.Put bytes false)) = simp append_assoc refl
  whole (askeds.Flow x (flows.Get n true)) = simp append_assoc refl
  whole (askeds.Flow x (flows.Get n false)) = simp append_assoc refl
  whole (askeds.Flow x flows.BeginPut) = refl
  whole (askeds.Flow x (flows.EndPut bytes)) = simp append_assoc refl
  whole (askeds.Flow x flows.BeginGet) = refl
  whole (askeds.Flow x (flows.EndGet n)) = simp append_assoc refl
  whole (askeds.Skip line) = refl
