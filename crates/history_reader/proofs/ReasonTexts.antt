-- The texts of reasons, both ways: why a message is bad, and why a command is refused.
use Rattle.std.proofs.Common.{◌≡◌, ℕ, ◌++◌, ◌∷◌, [], List, refl, sym, ap, ◌∙◌}
use Rattle.std.specs.Prelude.{codes, decimal}
use Rattle.mj_base.specs.declared.fault.FaultKind.{FaultKind}
use Rattle.mj_base.specs.declared.fault.FaultKind.TheVariants as faults
use Rattle.bind_model.specs.declared.told.BadWhy.{BadWhy}
use Rattle.bind_model.specs.declared.told.BadWhy.TheVariants as bads
use Rattle.bind_model.specs.declared.told.Told.{Told}
use Rattle.bind_model.specs.declared.told.Told.TheVariants as tells
use Rattle.bind_model.specs.declared.told.Why.{Why}
use Rattle.bind_model.specs.declared.told.Why.TheVariants as whys
use Rattle.byte_rules.specs.Among.{IsAmong}
use Rattle.history_text.specs.History.{end_text, token_text, bad_text, why_text}
use Rattle.history_text.specs.Words.{fault_word}
use Rattle.line_parts.specs.Signs.{blank, line_end}
use Rattle.line_parts.specs.Printable.{IsSmall, IsWide, AreAll}
use Rattle.line_parts.proofs.BothWays.{HasTexts, Is, texts_as, texts_before, texts_behind, texts_value, texts_then, texts_chain, texts_fine}
use Rattle.line_parts.proofs.KeywordTexts.{among_at, one_of, texts_keyword, texts_some_keyword}
use Rattle.line_parts.proofs.IdTexts.{texts_index, texts_wide, texts_sequence, texts_end, texts_token}
use Rattle.history_reader.specs.Reasons.{why_words, bad_words, part_after, why_after, refusal, fault_at, bad_after, bad}
use Rattle.history_reader.specs.Printable.{IsBadWhy, IsWhy}
use Rattle.history_reader.specs.declared.reasons.BadWord.{BadWord}
use Rattle.history_reader.specs.declared.reasons.BadWord.TheVariants.{Fault, Unasked, StrangeId, TooOld}
use Rattle.history_reader.specs.declared.reasons.WhyPart.{WhyPart}
use Rattle.history_reader.specs.declared.reasons.WhyPart.TheVariants as parts
use Rattle.history_reader.specs.declared.reasons.WhyWord.{WhyWord}
use Rattle.history_reader.specs.declared.reasons.WhyWord.TheVariants.{Plain, Of}
use Rattle.history_reader.proofs.LineTexts.{Line, texts_ends, texts_line}

-- why a message is bad
abbrev bad_word_text : BadWord → List ℕ
bad_word_text (Fault kind) = fault_word kind
bad_word_text Unasked = codes "unasked"
bad_word_text StrangeId = codes "strange-id"
bad_word_text TooOld = codes "too-old"

all_bads : (word : BadWord) → IsAmong (word, bad_word_text word) bad_words
all_bads Unasked = among_at bad_words 0 (Unasked, codes "unasked") refl
all_bads StrangeId = among_at bad_words 1 (StrangeId, codes "strange-id") refl
all_bads TooOld = among_at bad_words 2 (TooOld, codes "too-old") refl
all_bads (Fault faults.MisalignedObject) = among_at bad_words 3 (Fault faults.MisalignedObject, fault_word faults.MisalignedObject) refl
all_bads (Fault faults.IllegalMemoryRange) = among_at bad_words 4 (Fault faults.IllegalMemoryRange, fault_word faults.IllegalMemoryRange) refl
all_bads (Fault faults.UnexpectedStructHeader) = among_at bad_words 5 (Fault faults.UnexpectedStructHeader, fault_word faults.UnexpectedStructHeader) refl
all_bads (Fault faults.UnexpectedArrayHeader) = among_at bad_words 6 (Fault faults.UnexpectedArrayHeader, fault_word faults.UnexpectedArrayHeader) refl
all_bads (Fault faults.IllegalHandle) = among_at bad_words 7 (Fault faults.IllegalHandle, fault_word faults.IllegalHandle) refl
all_bads (Fault faults.UnexpectedInvalidHandle) = among_at bad_words 8 (Fault faults.UnexpectedInvalidHandle, fault_word faults.UnexpectedInvalidHandle) refl
all_bads (Fault faults.IllegalPointer) = among_at bad_words 9 (Fault faults.IllegalPointer, fault_word faults.IllegalPointer) refl
all_bads (Fault faults.UnexpectedNullPointer) = among_at bad_words 10 (Fault faults.UnexpectedNullPointer, fault_word faults.UnexpectedNullPointer) refl
all_bads (Fault faults.IllegalInterfaceId) = among_at bad_words 11 (Fault faults.IllegalInterfaceId, fault_word faults.IllegalInterfaceId) refl
all_bads (Fault faults.UnexpectedInvalidInterfaceId) = among_at bad_words 12
    (Fault faults.UnexpectedInvalidInterfaceId, fault_word faults.UnexpectedInvalidInterfaceId) refl
all_bads (Fault faults.MessageHeaderInvalidFlags) = among_at bad_words 13
    (Fault faults.MessageHeaderInvalidFlags, fault_word faults.MessageHeaderInvalidFlags) refl
all_bads (Fault faults.MessageHeaderMissingRequestId) = among_at bad_words 14
    (Fault faults.MessageHeaderMissingRequestId, fault_word faults.MessageHeaderMissingRequestId) refl
all_bads (Fault faults.MessageHeaderUnknownMethod) = among_at bad_words 15
    (Fault faults.MessageHeaderUnknownMethod, fault_word faults.MessageHeaderUnknownMethod) refl
all_bads (Fault faults.DifferentSizedArraysInMap) = among_at bad_words 16
    (Fault faults.DifferentSizedArraysInMap, fault_word faults.DifferentSizedArraysInMap) refl
all_bads (Fault faults.UnexpectedNullUnion) = among_at bad_words 17 (Fault faults.UnexpectedNullUnion, fault_word faults.UnexpectedNullUnion) refl
all_bads (Fault faults.UnknownUnionTag) = among_at bad_words 18 (Fault faults.UnknownUnionTag, fault_word faults.UnknownUnionTag) refl
all_bads (Fault faults.UnknownEnumValue) = among_at bad_words 19 (Fault faults.UnknownEnumValue, fault_word faults.UnknownEnumValue) refl
all_bads (Fault faults.MaxRecursionDepth) = among_at bad_words 20 (Fault faults.MaxRecursionDepth, fault_word faults.MaxRecursionDepth) refl
all_bads (Fault faults.BadUtf8) = among_at bad_words 21 (Fault faults.BadUtf8, fault_word faults.BadUtf8) refl

-- the list of words has each with its text
abbrev each_bad : AreAll (λ (entry : BadWord × List ℕ). entry.1 ≡ bad_word_text entry.0) bad_words
each_bad = (
  refl,
  (
    refl,
    (
      refl,
      (
        refl,
        (
          refl,
          (
            refl,
            (
              refl,
              (
                refl,
                (
                  refl,
                  (
                    refl,
                    (
                      refl,
                      (
                        refl,
                        (
                          refl,
                          (
                            refl,
                            (
                              refl,
                              (
                                refl,
                                (
                                  refl,
                                  (
                                    refl,
                                    (
                                      refl,
                                      (refl, (refl, (refl, tt))),
                                    ),
                                  ),
                                ),
                              ),
                            ),
                          ),
                        ),
                      ),
                    ),
                  ),
                ),
              ),
            ),
          ),
        ),
      ),
    ),
  ),
)

-- the word of what is bad
abbrev bad_of : BadWhy → BadWord
bad_of (bads.Message fault) = Fault fault.kind
bad_of (bads.Unasked request) = Unasked
bad_of (bads.StrangeId id) = StrangeId
bad_of (bads.TooOld version) = TooOld

-- the number behind it
abbrev bad_rest : BadWhy → List ℕ
bad_rest (bads.Message fault) = decimal fault.at
bad_rest (bads.Unasked request) = decimal request
bad_rest (bads.StrangeId id) = decimal id
bad_rest (bads.TooOld version) = decimal version

-- what is bad by this word, of its width
abbrev OfBad : BadWord → BadWhy → Type 0
OfBad word why = (bad_of why ≡ word) × IsBadWhy why

fault_in : (kind : FaultKind) (why : BadWhy) → OfBad (Fault kind) why → (at : ℕ) × IsWide at × (fault_at kind at ≡ why)
fault_in kind (bads.Message fault) h = let same : fault.kind ≡ kind = (let e = h.0 in cc) in
    (fault.at, h.1, ap (λ (k : FaultKind). fault_at k fault.at) (sym same))
fault_in kind _ h = absurd (let e = h.0 in cc)

unasked_in : (why : BadWhy) → OfBad Unasked why → (request : ℕ) × IsWide request × (bads.Unasked request ≡ why)
unasked_in (bads.Unasked request) h = (request, h.1, refl)
unasked_in _ h = absurd (let e = h.0 in cc)

strange_in : (why : BadWhy) → OfBad StrangeId why → (id : ℕ) × IsSmall id × (bads.StrangeId id ≡ why)
strange_in (bads.StrangeId id) h = (id, h.1, refl)
strange_in _ h = absurd (let e = h.0 in cc)

old_in : (why : BadWhy) → OfBad TooOld why → (version : ℕ) × IsSmall version × (bads.TooOld version ≡ why)
old_in (bads.TooOld version) h = (version, h.1, refl)
old_in _ h = absurd (let e = h.0 in cc)

texts_bad_after : (word : BadWord) → HasTexts (Is (OfBad word) (λ (why : BadWhy). blank ∷ bad_rest why)) (bad_after word)
unfolding bad_after
texts_bad_after (Fault kind) = texts_before blank (texts_value (fault_at kind) (OfBad (Fault kind)) bad_rest (λ at h. (refl, h)) (λ at h. refl) (fault_in kind)
    texts_wide)
texts_bad_after Unasked = texts_before blank (texts_value bads.Unasked (OfBad Unasked) bad_rest (λ request h. (refl, h))
    (λ request h. refl) unasked_in texts_wide)
texts_bad_after StrangeId = texts_before blank (texts_value bads.StrangeId (OfBad StrangeId) bad_rest (λ id h. (refl, h)) (λ id h. refl) strange_in texts_index)
texts_bad_after TooOld = texts_before blank (texts_value bads.TooOld (OfBad TooOld) bad_rest (λ id h. (refl, h)) (λ id h. refl) old_in texts_index)

bad_whole : (why : BadWhy) → bad_word_text (bad_of why) ++ blank ∷ bad_rest why ≡ bad_text why
bad_whole (bads.Message fault) = refl
bad_whole (bads.Unasked request) = refl
bad_whole (bads.StrangeId id) = refl
bad_whole (bads.TooOld version) = refl

pub texts_bad : HasTexts (Is IsBadWhy bad_text) bad
unfolding bad
texts_bad = texts_fine (λ why h. h.1.1) (λ why h. (tt, (refl, h))) (λ why h. bad_whole why)
    (texts_then bad_of (λ word why h. h.0) (texts_keyword bad_word_text bad_words each_bad all_bads) texts_bad_after)

-- why a command is refused
abbrev part_text : WhyPart → List ℕ
part_text parts.Unbound = codes "unbound"
part_text parts.Elsewhere = codes "elsewhere"
part_text parts.WrongPipe = codes "wrong-pipe"
part_text parts.Paused = codes "paused"
part_text parts.BadSize = codes "bad-size"
part_text parts.Busy = codes "busy"
part_text parts.Short = codes "short"

-- the text of the word of a refusal
abbrev why_word_text : WhyWord → List ℕ
why_word_text (Plain why) = why_text why
why_word_text (Of part) = part_text part

-- the list of words has each with its text
abbrev each_why : AreAll (λ (entry : WhyWord × List ℕ). entry.1 ≡ why_word_text entry.0) why_words
each_why = (
  refl,
  (
    refl,
    (
      refl,
      (
        refl,
        (
          refl,
          (
            refl,
            (
              refl,
              (
                refl,
                (
                  refl,
                  (
                    refl,
                    (
                      refl,
                      (
                        refl,
                        (
                          refl,
                          (
                            refl,
                            (
                              refl,
                              (
                                refl,
                                (
                                  refl,
                                  (
                                    refl,
                                    (
                                      refl,
                                      (refl, (refl, (refl, tt))),
                                    ),
                                  ),
                                ),
                              ),
                            ),
                          ),
                        ),
                      ),
                    ),
                  ),
                ),
              ),
            ),
          ),
        ),
      ),
    ),
  ),
)

-- the word of a refusal
abbrev why_of : Why → WhyWord
why_of (whys.Unbound id) = Of parts.Unbound
why_of (whys.Elsewhere t) = Of parts.Elsewhere
why_of (whys.WrongPipe id) = Of parts.WrongPipe
why_of (whys.Paused x) = Of parts.Paused
why_of (whys.BadSize size) = Of parts.BadSize
why_of (whys.Busy t) = Of parts.Busy
why_of (whys.Short n) = Of parts.Short
why_of why = Plain why

-- a word that is all of a refusal
abbrev IsPlain : WhyWord → Type 0
IsPlain (Plain why) = (why_of why ≡ Plain why) × IsWhy why
IsPlain (Of part) = Unit {0}

-- the list has a plain word only for a refusal without a part
abbrev each_plain : AreAll (λ (entry : WhyWord × List ℕ). IsPlain entry.0) why_words
each_plain = (
  (refl, tt),
  (
    (refl, tt),
    (
      (refl, tt),
      (
        tt,
        (
          tt,
          (
            (refl, tt),
            (
              (refl, tt),
              (
                (refl, tt),
                (
                  tt,
                  (
                    (refl, tt),
                    (
                      (refl, tt),
                      (
                        (refl, tt),
                        ((refl, tt), ((refl, tt), ((refl, tt), (tt, ((refl, tt), (tt, ((refl, tt), (tt, ((refl, tt), (tt, tt)))))))))),
                      ),
                    ),
                  ),
                ),
              ),
            ),
          ),
        ),
      ),
    ),
  ),
)

among_whys : (why : Why) → IsAmong (why_of why, why_word_text (why_of why)) why_words
among_whys whys.NoName = among_at why_words 0 (Plain whys.NoName, why_text whys.NoName) refl
among_whys whys.NotPipe = among_at why_words 1 (Plain whys.NotPipe, why_text whys.NotPipe) refl
among_whys whys.Disconnected = among_at why_words 2 (Plain whys.Disconnected, why_text whys.Disconnected) refl
among_whys whys.WrongSide = among_at why_words 5 (Plain whys.WrongSide, why_text whys.WrongSide) refl
among_whys whys.WrongMethod = among_at why_words 6 (Plain whys.WrongMethod, why_text whys.WrongMethod) refl
among_whys whys.WrongTokens = among_at why_words 7 (Plain whys.WrongTokens, why_text whys.WrongTokens) refl
among_whys whys.SelfSend = among_at why_words 9 (Plain whys.SelfSend, why_text whys.SelfSend) refl
among_whys whys.TooLong = among_at why_words 10 (Plain whys.TooLong, why_text whys.TooLong) refl
among_whys whys.TooManyHandles = among_at why_words 11 (Plain whys.TooManyHandles, why_text whys.TooManyHandles) refl
among_whys whys.Full = among_at why_words 12 (Plain whys.Full, why_text whys.Full) refl
among_whys whys.Empty = among_at why_words 13 (Plain whys.Empty, why_text whys.Empty) refl
among_whys whys.PeerClosed = among_at why_words 14 (Plain whys.PeerClosed, why_text whys.PeerClosed) refl
among_whys whys.SelfPause = among_at why_words 16 (Plain whys.SelfPause, why_text whys.SelfPause) refl
among_whys whys.NotData = among_at why_words 18 (Plain whys.NotData, why_text whys.NotData) refl
among_whys whys.Idle = among_at why_words 20 (Plain whys.Idle, why_text whys.Idle) refl
among_whys (whys.Unbound x) = among_at why_words 3 (Of parts.Unbound, part_text parts.Unbound) refl
among_whys (whys.Elsewhere x) = among_at why_words 4 (Of parts.Elsewhere, part_text parts.Elsewhere) refl
among_whys (whys.WrongPipe x) = among_at why_words 8 (Of parts.WrongPipe, part_text parts.WrongPipe) refl
among_whys (whys.Paused x) = among_at why_words 15 (Of parts.Paused, part_text parts.Paused) refl
among_whys (whys.BadSize x) = among_at why_words 17 (Of parts.BadSize, part_text parts.BadSize) refl
among_whys (whys.Busy x) = among_at why_words 19 (Of parts.Busy, part_text parts.Busy) refl
among_whys (whys.Short x) = among_at why_words 21 (Of parts.Short, part_text parts.Short) refl

-- what such a refusal says behind its word
abbrev said_by : Why → List ℕ
said_by (whys.Unbound id) = decimal id
said_by (whys.Elsewhere t) = decimal t.0
said_by (whys.WrongPipe id) = decimal id
said_by (whys.Paused x) = end_text x
said_by (whys.BadSize size) = decimal size
said_by (whys.Busy t) = token_text t
said_by (whys.Short n) = decimal n
said_by why = []

-- the text behind the word of a refusal
abbrev rest_by : WhyWord → Why → List ℕ
rest_by (Plain y) why = line_end ∷ []
rest_by (Of part) why = blank ∷ (said_by why ++ line_end ∷ [])

-- the same by the refusal alone
abbrev why_rest : Why → List ℕ
why_rest why = rest_by (why_of why) why

same_why : (why y : Why) → why_of why ≡ Plain y → why ≡ y
same_why (whys.Unbound id) y e = absurd (cc)
same_why (whys.Elsewhere t) y e = absurd (cc)
same_why (whys.WrongPipe id) y e = absurd (cc)
same_why (whys.Paused x) y e = absurd (cc)
same_why (whys.BadSize size) y e = absurd (cc)
same_why (whys.Busy t) y e = absurd (cc)
same_why (whys.Short n) y e = absurd (cc)
same_why why y e = cc

-- a refusal of this word, behind the word
abbrev OfNo : WhyWord → Told → List ℕ → Type 0
OfNo word a w = (why : Why) × (why_of why ≡ word) × IsWhy why × (a ≡ tells.No why) × (w ≡ rest_by word why)

-- a refusal that says this, behind the word and a blank
abbrev OfPart : WhyPart → Told → List ℕ → Type 0
OfPart part a w = (why : Why) × (why_of why ≡ Of part) × IsWhy why × (a ≡ tells.No why) × (w ≡ said_by why ++ line_end ∷ [])

unbound_in : (a : Told) (w : List ℕ) (why : Why) → why_of why ≡ Of parts.Unbound → IsWhy why → a ≡ tells.No why → w ≡ said_by why ++ line_end ∷ []
    → Line (λ id. tells.No (whys.Unbound id)) texts_index a w
unbound_in a w (whys.Unbound id) e k f g = (id, k, f, g)
unbound_in a w _ e k f g = absurd (cc)

elsewhere_in : (a : Told) (w : List ℕ) (why : Why) → why_of why ≡ Of parts.Elsewhere → IsWhy why → a ≡ tells.No why → w ≡ said_by why ++ line_end ∷ []
    → Line (λ t. tells.No (whys.Elsewhere t)) texts_sequence a w
elsewhere_in a w (whys.Elsewhere t) e k f g = (t, k, f, g)
elsewhere_in a w _ e k f g = absurd (cc)

wrong_pipe_in : (a : Told) (w : List ℕ) (why : Why) → why_of why ≡ Of parts.WrongPipe → IsWhy why → a ≡ tells.No why → w ≡ said_by why ++ line_end ∷ []
    → Line (λ id. tells.No (whys.WrongPipe id)) texts_index a w
wrong_pipe_in a w (whys.WrongPipe id) e k f g = (id, k, f, g)
wrong_pipe_in a w _ e k f g = absurd (cc)

paused_in : (a : Told) (w : List ℕ) (why : Why) → why_of why ≡ Of parts.Paused → IsWhy why → a ≡ tells.No why → w ≡ said_by why ++ line_end ∷ []
    → Line (λ x. tells.No (whys.Paused x)) texts_end a w
paused_in a w (whys.Paused x) e k f g = (x, k, f, g)
paused_in a w _ e k f g = absurd (cc)

size_in : (a : Told) (w : List ℕ) (why : Why) → why_of why ≡ Of parts.BadSize → IsWhy why → a ≡ tells.No why → w ≡ said_by why ++ line_end ∷ []
    → Line (λ size. tells.No (whys.BadSize size)) texts_index a w
size_in a w (whys.BadSize size) e k f g = (size, k, f, g)
size_in a w _ e k f g = absurd (cc)

busy_in : (a : Told) (w : List ℕ) (why : Why) → why_of why ≡ Of parts.Busy → IsWhy why → a ≡ tells.No why → w ≡ said_by why ++ line_end ∷ []
    → Line (λ t. tells.No (whys.Busy t)) texts_token a w
busy_in a w (whys.Busy t) e k f g = (t, k, f, g)
busy_in a w _ e k f g = absurd (cc)

short_in : (a : Told) (w : List ℕ) (why : Why) → why_of why ≡ Of parts.Short → IsWhy why → a ≡ tells.No why → w ≡ said_by why ++ line_end ∷ []
    → Line (λ n. tells.No (whys.Short n)) texts_index a w
short_in a w (whys.Short n) e k f g = (n, k, f, g)
short_in a w _ e k f g = absurd (cc)

texts_part_after : (part : WhyPart) → HasTexts (OfPart part) (part_after part)
unfolding part_after
texts_part_after parts.Unbound = texts_as (λ a w h. (whys.Unbound h.0, refl, h.1, h.2, h.3)) (λ a w h. unbound_in a w h.0 h.1 h.2 h.3 h.4)
    (texts_line (λ id. tells.No (whys.Unbound id)) texts_index)
texts_part_after parts.Elsewhere = texts_as (λ a w h. (whys.Elsewhere h.0, refl, h.1, h.2, h.3)) (λ a w h. elsewhere_in a w h.0 h.1 h.2 h.3 h.4)
    (texts_line (λ t. tells.No (whys.Elsewhere t)) texts_sequence)
texts_part_after parts.WrongPipe = texts_as (λ a w h. (whys.WrongPipe h.0, refl, h.1, h.2, h.3)) (λ a w h. wrong_pipe_in a w h.0 h.1 h.2 h.3 h.4)
    (texts_line (λ id. tells.No (whys.WrongPipe id)) texts_index)
texts_part_after parts.Paused = texts_as (λ a w h. (whys.Paused h.0, refl, h.1, h.2, h.3)) (λ a w h. paused_in a w h.0 h.1 h.2 h.3 h.4)
    (texts_line (λ x. tells.No (whys.Paused x)) texts_end)
texts_part_after parts.BadSize = texts_as (λ a w h. (whys.BadSize h.0, refl, h.1, h.2, h.3)) (λ a w h. size_in a w h.0 h.1 h.2 h.3 h.4)
    (texts_line (λ size. tells.No (whys.BadSize size)) texts_index)
texts_part_after parts.Busy = texts_as (λ a w h. (whys.Busy h.0, refl, h.1, h.2, h.3)) (λ a w h. busy_in a w h.0 h.1 h.2 h.3 h.4)
    (texts_line (λ t. tells.No (whys.Busy t)) texts_token)
texts_part_after parts.Short = texts_as (λ a w h. (whys.Short h.0, refl, h.1, h.2, h.3)) (λ a w h. short_in a w h.0 h.1 h.2 h.3 h.4)
    (texts_line (λ n. tells.No (whys.Short n)) texts_index)

-- a refusal with a part, behind a blank
abbrev Parted : WhyPart → Told → List ℕ → Type 0
Parted part a w = (v : List ℕ) × OfPart part a v × (w ≡ blank ∷ v)

parted_from : (part : WhyPart) (a : Told) (w : List ℕ) → Parted part a w → OfNo (Of part) a w
parted_from part a w h = let k = h.1 in (k.0, k.1, k.2, k.3, h.2 ∙ ap (λ (l : List ℕ). blank ∷ l) k.4)

parted_to : (part : WhyPart) (a : Told) (w : List ℕ) → OfNo (Of part) a w → Parted part a w
parted_to part a w h = (said_by h.0 ++ line_end ∷ [], (h.0, h.1, h.2, h.3, refl), h.4)

texts_why_after : (word : WhyWord) → IsPlain word → HasTexts (OfNo word) (why_after word)
unfolding why_after
texts_why_after (Plain y) p = texts_as (λ a w h. (y, p.0, p.1, h.0, h.1))
    (λ a w h. (h.3 ∙ ap (λ (why : Why). tells.No why) (same_why h.0 y h.1), h.4)) (texts_ends (tells.No y))
texts_why_after (Of part) p = texts_as (parted_from part) (parted_to part) (texts_behind blank (texts_part_after part))

why_whole : (why : Why) → why_word_text (why_of why) ++ why_rest why ≡ why_text why ++ line_end ∷ []
why_whole (whys.Unbound id) = refl
why_whole (whys.Elsewhere t) = refl
why_whole (whys.WrongPipe id) = refl
why_whole (whys.Paused x) = refl
why_whole (whys.BadSize size) = refl
why_whole (whys.Busy t) = refl
why_whole (whys.Short n) = refl
why_whole _ = refl

-- a refusal, and its text
abbrev pub No : Told → List ℕ → Type 0
No a w = (why : Why) × IsWhy why × (a ≡ tells.No why) × (w ≡ blank ∷ (why_text why ++ line_end ∷ []))

-- the same as it is read: a blank, the word, what stands behind it
abbrev Refused : Told → List ℕ → Type 0
Refused a w = (v : List ℕ) × ((word : WhyWord) × IsAmong (word, why_word_text word) why_words × (u : List ℕ) × OfNo word a u × (v ≡ why_word_text word ++ u))
    × (w ≡ blank ∷ v)

no_from : (a : Told) (w : List ℕ) → Refused a w → No a w
no_from a w h =
    let k = h.1 in
    let n = k.3 in (
      n.0,
      n.2,
      n.3,
      h.2
          ∙ ap (λ (l : List ℕ). blank ∷ l)
          (k.4 ∙ ap (λ (l : List ℕ). why_word_text k.0 ++ l) n.4 ∙ ap (λ (word : WhyWord). why_word_text word ++ rest_by word n.0) (sym n.1) ∙ why_whole n.0),
    )

no_to : (a : Told) (w : List ℕ) → No a w → Refused a w
no_to a w h = (
  why_text h.0 ++ line_end ∷ [],
  (why_of h.0, among_whys h.0, why_rest h.0, (h.0, refl, h.1, h.2, refl), sym (why_whole h.0)),
  h.3,
)

pub texts_refusal : HasTexts No refusal
unfolding refusal
texts_refusal = texts_as no_from no_to (texts_behind blank (texts_chain (texts_some_keyword why_word_text why_words each_why)
    (λ word k. texts_why_after word (one_of (λ (entry : WhyWord × List ℕ). IsPlain entry.0) why_words (word, why_word_text word) each_plain k))))
