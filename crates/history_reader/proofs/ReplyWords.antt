-- The words of replies, and what stands behind the word of each.
use Rattle.std.proofs.Common.{◌≡◌, ℕ, ℤ, ◌++◌, ◌∷◌, [], List, Option, Some, None, true, false, refl, sym, ap, ◌∙◌, subst, append_assoc}
use Rattle.std.specs.Prelude.{codes, decimal}
use Rattle.mj_schema.specs.declared.schema.Schema.{Schema}
use Rattle.handle_table.specs.declared.thing.TokenId.{TokenId}
use Rattle.bind_model.specs.declared.flow.Flowed.{Flowed}
use Rattle.bind_model.specs.declared.flow.Flowed.TheVariants as floweds
use Rattle.bind_model.specs.declared.told.Got.{Got}
use Rattle.bind_model.specs.declared.told.Noted.{Noted}
use Rattle.bind_model.specs.declared.told.Noted.TheVariants as noteds
use Rattle.bind_model.specs.declared.told.Notified.{Notified}
use Rattle.bind_model.specs.declared.told.Notified.TheVariants as notifieds
use Rattle.bind_model.specs.declared.told.Told.{Told}
use Rattle.bind_model.specs.declared.told.Told.TheVariants as tells
use Rattle.byte_rules.specs.Among.{IsAmong}
use Rattle.history_text.specs.History.{end_text, token_text, pending_text, things_text, pendings_text, hex_text, message_text, bad_text, why_text, version_text}
use Rattle.history_text.specs.History.{at_text, got_text, told_text}
use Rattle.history_text.specs.Words.{message_word}
use Rattle.line_parts.specs.Signs.{blank, line_end}
use Rattle.line_parts.specs.Printable.{AreAll}
use Rattle.line_parts.proofs.BothWays.{Is}
use Rattle.line_parts.proofs.KeywordTexts.{among_at}
use Rattle.history_reader.specs.Replies.{reply_words}
use Rattle.history_reader.specs.Printable.{IsTold}
use Rattle.history_reader.specs.declared.flowed.FlowedWord.{FlowedWord}
use Rattle.history_reader.specs.declared.flowed.FlowedWord.TheVariants as moves
use Rattle.history_reader.specs.declared.noted.NotedWord.{NotedWord}
use Rattle.history_reader.specs.declared.noted.NotedWord.TheVariants as notes
use Rattle.history_reader.specs.declared.noted.NotifiedWord.{NotifiedWord}
use Rattle.history_reader.specs.declared.noted.NotifiedWord.TheVariants as notices
use Rattle.history_reader.specs.declared.replies.ReplyWord.{ReplyWord}
use Rattle.history_reader.specs.declared.replies.ReplyWord.TheVariants as replies
use Rattle.history_reader.proofs.AtTexts.{has_moment, behind_at}

-- the text of the word of a reply
abbrev pub reply_text : ReplyWord → List ℕ
reply_text replies.Made = codes "made"
reply_text replies.Bound = codes "bound"
reply_text replies.Associated = codes "associated"
reply_text replies.Attached = codes "attached"
reply_text replies.Sent = codes "sent"
reply_text replies.Wrote = codes "wrote"
reply_text (replies.Got false) = codes "got"
reply_text (replies.Got true) = codes "got-at"
reply_text replies.Dropped = codes "dropped"
reply_text (replies.Control notes.Closed) = codes "control"
reply_text (replies.Control notes.Queried) = codes "queried"
reply_text (replies.Control notes.Version) = codes "version"
reply_text (replies.Control notes.Required) = codes "required"
reply_text (replies.Control notes.Flushed) = codes "flushed"
reply_text replies.Bad = codes "bad"
reply_text replies.Closed = codes "closed"
reply_text (replies.Notified notices.Asking) = codes "asking"
reply_text (replies.Notified notices.Requiring) = codes "requiring"
reply_text (replies.Notified notices.Flushing) = codes "flushing"
reply_text replies.Pausing = codes "pausing"
reply_text (replies.Flowed moves.Put) = codes "put"
reply_text (replies.Flowed moves.Bytes) = codes "got-bytes"
reply_text (replies.Flowed moves.Space) = codes "space"
reply_text (replies.Flowed moves.View) = codes "view"
reply_text (replies.Flowed moves.Ended) = codes "ended"
reply_text replies.Skipped = codes "skipped"
reply_text replies.No = codes "no"

pub all_replies : (word : ReplyWord) → IsAmong (word, reply_text word) reply_words
all_replies replies.Made = among_at reply_words 0 (replies.Made, codes "made") refl
all_replies replies.Bound = among_at reply_words 1 (replies.Bound, codes "bound") refl
all_replies replies.Associated = among_at reply_words 2 (replies.Associated, codes "associated") refl
all_replies replies.Attached = among_at reply_words 3 (replies.Attached, codes "attached") refl
all_replies replies.Sent = among_at reply_words 4 (replies.Sent, codes "sent") refl
all_replies replies.Wrote = among_at reply_words 5 (replies.Wrote, codes "wrote") refl
all_replies (replies.Got false) = among_at reply_words 6 ((replies.Got false), codes "got") refl
all_replies (replies.Got true) = among_at reply_words 7 ((replies.Got true), codes "got-at") refl
all_replies replies.Dropped = among_at reply_words 8 (replies.Dropped, codes "dropped") refl
all_replies (replies.Control notes.Closed) = among_at reply_words 9 ((replies.Control notes.Closed), codes "control") refl
all_replies (replies.Control notes.Queried) = among_at reply_words 10 ((replies.Control notes.Queried), codes "queried") refl
all_replies (replies.Control notes.Version) = among_at reply_words 11 ((replies.Control notes.Version), codes "version") refl
all_replies (replies.Control notes.Required) = among_at reply_words 12 ((replies.Control notes.Required), codes "required") refl
all_replies (replies.Control notes.Flushed) = among_at reply_words 13 ((replies.Control notes.Flushed), codes "flushed") refl
all_replies replies.Bad = among_at reply_words 14 (replies.Bad, codes "bad") refl
all_replies replies.Closed = among_at reply_words 15 (replies.Closed, codes "closed") refl
all_replies (replies.Notified notices.Asking) = among_at reply_words 16 ((replies.Notified notices.Asking), codes "asking") refl
all_replies (replies.Notified notices.Requiring) = among_at reply_words 17 ((replies.Notified notices.Requiring), codes "requiring") refl
all_replies (replies.Notified notices.Flushing) = among_at reply_words 18 ((replies.Notified notices.Flushing), codes "flushing") refl
all_replies replies.Pausing = among_at reply_words 19 (replies.Pausing, codes "pausing") refl
all_replies (replies.Flowed moves.Put) = among_at reply_words 20 ((replies.Flowed moves.Put), codes "put") refl
all_replies (replies.Flowed moves.Bytes) = among_at reply_words 21 ((replies.Flowed moves.Bytes), codes "got-bytes") refl
all_replies (replies.Flowed moves.Space) = among_at reply_words 22 ((replies.Flowed moves.Space), codes "space") refl
all_replies (replies.Flowed moves.View) = among_at reply_words 23 ((replies.Flowed moves.View), codes "view") refl
all_replies (replies.Flowed moves.Ended) = among_at reply_words 24 ((replies.Flowed moves.Ended), codes "ended") refl
all_replies replies.Skipped = among_at reply_words 25 (replies.Skipped, codes "skipped") refl
all_replies replies.No = among_at reply_words 26 (replies.No, codes "no") refl

-- the list of words has each with its text
abbrev pub each_reply : AreAll (λ (entry : ReplyWord × List ℕ). entry.1 ≡ reply_text entry.0) reply_words
each_reply = (
  refl,
  (
    refl,
    (
      refl,
      (
        refl,
        (
          refl,
          (
            refl,
            (
              refl,
              (
                refl,
                (
                  refl,
                  (
                    refl,
                    (
                      refl,
                      (
                        refl,
                        (
                          refl,
                          (
                            refl,
                            (
                              refl,
                              (
                                refl,
                                (
                                  refl,
                                  (
                                    refl,
                                    (
                                      refl,
                                      (refl, (refl, (refl, (refl, (refl, (refl, (refl, (refl, tt)))))))),
                                    ),
                                  ),
                                ),
                              ),
                            ),
                          ),
                        ),
                      ),
                    ),
                  ),
                ),
              ),
            ),
          ),
        ),
      ),
    ),
  ),
)

-- the word that a reply begins with
abbrev pub noted_word : Noted → NotedWord
noted_word (noteds.Closed id) = notes.Closed
noted_word (noteds.Queried id version) = notes.Queried
noted_word (noteds.Version id version) = notes.Version
noted_word (noteds.Required id version) = notes.Required
noted_word (noteds.Flushed flush) = notes.Flushed

-- the word of a control that was written
abbrev pub notified_word : Notified → NotifiedWord
notified_word notifieds.Asking = notices.Asking
notified_word notifieds.Requiring = notices.Requiring
notified_word (notifieds.Flushing flush) = notices.Flushing

-- the word of a reply about a data pipe
abbrev pub flowed_word : Flowed → FlowedWord
flowed_word (floweds.Put n) = moves.Put
flowed_word (floweds.Bytes bytes) = moves.Bytes
flowed_word (floweds.Space n) = moves.Space
flowed_word (floweds.View bytes) = moves.View
flowed_word floweds.Ended = moves.Ended

-- the word of a reply
abbrev pub reply_of : Told → ReplyWord
reply_of (tells.Made xs) = replies.Made
reply_of (tells.Bound x) = replies.Bound
reply_of (tells.Associated p) = replies.Associated
reply_of (tells.Attached id) = replies.Attached
reply_of (tells.Sent request bytes) = replies.Sent
reply_of (tells.Wrote x) = replies.Wrote
reply_of (tells.Taken g) = replies.Got (has_moment g.moment)
reply_of (tells.Dropped id gone) = replies.Dropped
reply_of (tells.Control noted) = replies.Control (noted_word noted)
reply_of (tells.Bad why gone) = replies.Bad
reply_of (tells.Closed gone) = replies.Closed
reply_of (tells.Notified notified) = replies.Notified (notified_word notified)
reply_of tells.Pausing = replies.Pausing
reply_of (tells.Flowed t flowed) = replies.Flowed (flowed_word flowed)
reply_of tells.Skipped = replies.Skipped
reply_of (tells.No why) = replies.No

-- what stands behind the word of a reply about controls, and about data pipes
abbrev noted_after : Noted → List ℕ
noted_after (noteds.Closed id) = blank ∷ (decimal id ++ line_end ∷ [])
noted_after (noteds.Queried id version) = blank ∷ (decimal id ++ blank ∷ (version_text version ++ line_end ∷ []))
noted_after (noteds.Version id version) = blank ∷ (decimal id ++ blank ∷ (decimal version ++ line_end ∷ []))
noted_after (noteds.Required id version) = blank ∷ (decimal id ++ blank ∷ (decimal version ++ line_end ∷ []))
noted_after (noteds.Flushed flush) = blank ∷ (decimal flush ++ line_end ∷ [])

-- the text behind the word of a control that was written
abbrev notified_after : Notified → List ℕ
notified_after notifieds.Asking = line_end ∷ []
notified_after notifieds.Requiring = line_end ∷ []
notified_after (notifieds.Flushing flush) = blank ∷ (decimal flush ++ line_end ∷ [])

-- the text behind the word of a reply about a data pipe
abbrev flowed_after : TokenId → Flowed → List ℕ
flowed_after t (floweds.Put n) = blank ∷ (token_text t ++ blank ∷ (decimal n ++ line_end ∷ []))
flowed_after t (floweds.Bytes bytes) = blank ∷ (token_text t ++ blank ∷ (hex_text bytes ++ line_end ∷ []))
flowed_after t (floweds.Space n) = blank ∷ (token_text t ++ blank ∷ (decimal n ++ line_end ∷ []))
flowed_after t (floweds.View bytes) = blank ∷ (token_text t ++ blank ∷ (hex_text bytes ++ line_end ∷ []))
flowed_after t floweds.Ended = blank ∷ (token_text t ++ line_end ∷ [])

-- behind the word of what a take got; where there is a moment, it stands between
got_word : (at : Option ℤ) (rest : List ℕ) → reply_text (replies.Got (has_moment at)) ++ behind_at at (blank ∷ rest)
    ≡ codes "got" ++ (at_text at ++ (codes " " ++ rest))
got_word None rest = refl
got_word (Some moment) rest = refl

module _ (schema : Schema) where
  -- what stands behind the word, and the line's end
  abbrev got_rest : Got → List ℕ
  got_rest g = message_word g.target.side ++ blank ∷ (decimal g.id ++ blank ∷ ((message_text schema g.target g.parameters ++ blank ∷ [])
      ++ (decimal g.request ++ blank ∷ (things_text g.handles ++ blank ∷ (pendings_text g.pendings ++ blank ∷ (things_text g.gone ++ line_end ∷ []))))))

  -- the text behind the word of what was got
  abbrev pub got_after : Got → List ℕ
  got_after g = blank ∷ got_rest g

  -- the text behind the word of a reply
  abbrev pub after : Told → List ℕ
  after (tells.Made xs) = blank ∷ (things_text xs ++ line_end ∷ [])
  after (tells.Bound x) = blank ∷ (end_text x ++ line_end ∷ [])
  after (tells.Associated p) = blank ∷ (pending_text p ++ line_end ∷ [])
  after (tells.Attached id) = blank ∷ (decimal id ++ line_end ∷ [])
  after (tells.Sent request bytes) = blank ∷ (decimal request ++ blank ∷ (hex_text bytes ++ line_end ∷ []))
  after (tells.Wrote x) = blank ∷ (end_text x ++ line_end ∷ [])
  after (tells.Taken g) = behind_at g.moment (got_after g)
  after (tells.Dropped id gone) = blank ∷ (decimal id ++ blank ∷ (things_text gone ++ line_end ∷ []))
  after (tells.Control noted) = noted_after noted
  after (tells.Bad why gone) = blank ∷ (bad_text why ++ blank ∷ (things_text gone ++ line_end ∷ []))
  after (tells.Closed gone) = blank ∷ (things_text gone ++ line_end ∷ [])
  after (tells.Notified notified) = notified_after notified
  after tells.Pausing = line_end ∷ []
  after (tells.Flowed t flowed) = flowed_after t flowed
  after tells.Skipped = line_end ∷ []
  after (tells.No why) = blank ∷ (why_text why ++ line_end ∷ [])

  -- a reply of this word
  abbrev pub Of : ReplyWord → Told → List ℕ → Type 0
  Of word a w = Is (λ (a : Told). (reply_of a ≡ word) × IsTold schema a) after a w

  pub told_as : (word : ReplyWord) (a what : Told) (w : List ℕ) → a ≡ what → Of word what w → Of word a w
  told_as word a what w e h = subst (λ (a : Told). Of word a w) (sym e) h

  got_same : (g : Got) → got_rest g ≡ got_text schema g ++ line_end ∷ []
  got_same g = simp append_assoc refl

  pub whole : (a : Told) → reply_text (reply_of a) ++ after a ≡ told_text schema a ++ line_end ∷ []
  whole (tells.Made xs) = refl
  whole (tells.Bound x) = refl
  whole (tells.Associated p) = refl
  whole (tells.Attached id) = refl
  whole (tells.Sent request bytes) = simp append_assoc refl
  whole (tells.Wrote x) = refl
  whole (tells.Taken g) = got_word g.moment (got_rest g) ∙ ap (λ (l : List ℕ). codes "got" ++ (at_text g.moment ++ (codes " " ++ l))) (got_same g)
      ∙ ap (λ (l : List ℕ). codes "got" ++ l) (sym (append_assoc (at_text g.moment) (codes " " ++ got_text schema g) (line_end ∷ [])))
  whole (tells.Dropped id gone) = simp append_assoc refl
  whole (tells.Control (noteds.Closed id)) = refl
  whole (tells.Control (noteds.Queried id version)) = simp append_assoc refl
  whole (tells.Control (noteds.Version id version)) = simp append_assoc refl
  whole (tells.Control (noteds.Required id version)) = simp append_assoc refl
  whole (tells.Control (noteds.Flushed flush)) = refl
  whole (tells.Bad why gone) = simp append_assoc refl
  whole (tells.Closed gone) = refl
  whole (tells.Notified notifieds.Asking) = refl
  whole (tells.Notified notifieds.Requiring) = refl
  whole (tells.Notified (notifieds.Flushing flush)) = refl
  whole tells.Pausing = refl
  whole (tells.Flowed t (floweds.Put n)) = simp append_assoc refl
  whole (tells.Flowed t (floweds.Bytes bytes)) = simp append_assoc refl
  whole (tells.Flowed t (floweds.Space n)) = simp append_assoc refl
  whole (tells.Flowed t (floweds.View bytes)) = simp append_assoc refl
  whole (tells.Flowed t floweds.Ended) = refl
  whole tells.Skipped = refl
  whole (tells.No why) = refl
