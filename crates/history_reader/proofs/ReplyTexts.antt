-- The texts of replies, both ways.
use Rattle.std.proofs.Common.{◌≡◌, ℕ, ℤ, ◌++◌, ◌∷◌, [], List, Option, Some, None, true, false, refl, sym, ap, ◌∙◌, subst}
use Rattle.std.specs.Prelude.{codes, decimal}
use Rattle.std.specs.Fmt.{signed_decimal}
use Rattle.mj_schema.specs.declared.schema.Schema.{Schema}
use Rattle.handle_table.specs.declared.thing.Thing.{Thing}
use Rattle.wire_model.specs.Trees.{Tree}
use Rattle.wire_model.specs.declared.target.MessageSide.{MessageSide}
use Rattle.wire_model.specs.declared.target.MessageSide.TheVariants.{Request, Response}
use Rattle.wire_model.specs.declared.target.Target.{Target}
use Rattle.bind_model.specs.declared.endpoint.PendingId.{PendingId}
use Rattle.bind_model.specs.declared.told.Got.{Got}
use Rattle.bind_model.specs.declared.told.Told.{Told}
use Rattle.bind_model.specs.declared.told.Told.TheVariants as tells
use Rattle.byte_rules.specs.Lang.{closed}
use Rattle.byte_rules.specs.Among.{IsAmong}
use Rattle.history_text.specs.History.{things_text, pendings_text, message_text, told_text}
use Rattle.history_text.specs.Words.{message_word}
use Rattle.line_parts.specs.Signs.{blank, line_end}
use Rattle.line_parts.specs.Names.{names_of}
use Rattle.line_parts.specs.Printable.{IsSmall, IsWide, IsLong, IsMoment, IsThing, IsPending, AreAll, IsMessage}
use Rattle.line_parts.proofs.BothWays.{HasTexts, Is, texts_as, texts_behind, texts_chain, texts_follow}
use Rattle.line_parts.proofs.KeywordTexts.{among_at, texts_keyword}
use Rattle.line_parts.proofs.IdTexts.{texts_index, texts_wide, texts_moment, texts_end, texts_pending}
use Rattle.line_parts.proofs.ListTexts.{texts_things, texts_pendings}
use Rattle.line_parts.proofs.MessageTexts.{texts_message, side_is}
use Rattle.history_reader.specs.Reasons.{refusal}
use Rattle.history_reader.specs.Replies.{reply_words, message_side, got_of, got_lists, got, got_at, made, bound, associated, attached, sent, wrote, dropped}
use Rattle.history_reader.specs.Replies.{bad_reply, gone_reply, told_after, told}
use Rattle.history_reader.specs.Printable.{IsGot, IsTold}
use Rattle.history_reader.specs.declared.replies.ReplyWord.{ReplyWord}
use Rattle.history_reader.specs.declared.replies.ReplyWord.TheVariants as replies
use Rattle.history_reader.proofs.AtTexts.{has_moment, behind_at, none_of, some_of}
use Rattle.history_reader.proofs.LineTexts.{Ends, Line1, Line2, LineBytes, texts_ends, texts_line1, texts_line2, texts_line_bytes}
use Rattle.history_reader.proofs.ReasonTexts.{No, texts_bad, texts_refusal}
use Rattle.history_reader.proofs.ReplyWords.{reply_text, all_replies, each_reply, reply_of, got_after, after, Of, told_as, whole}
use Rattle.history_reader.proofs.NotedTexts.{texts_noted_after, texts_notified_after}
use Rattle.history_reader.proofs.FlowedTexts.{texts_flowed_after}

-- a side of a method
abbrev sides : List (MessageSide × List ℕ)
sides = (Request, codes "request") ∷ (Response, codes "response") ∷ []

all_sides : (s : MessageSide) → IsAmong (s, message_word s) sides
all_sides Request = among_at sides 0 (Request, codes "request") refl
all_sides Response = among_at sides 1 (Response, codes "response") refl

texts_message_side : HasTexts (Is (λ (s : MessageSide). Unit {0}) message_word) message_side
unfolding message_side
texts_message_side = texts_keyword message_word sides (refl, (refl, tt)) all_sides

module _ (schema : Schema) where
  texts_made : HasTexts (Of schema replies.Made) made
  unfolding made
  texts_made = texts_as (λ a w h. told_as schema replies.Made a (tells.Made h.0) w h.2 ((refl, h.1), h.3)) to (texts_line1 tells.Made texts_things)
    where
      to : (a : Told) (w : List ℕ) → Of schema replies.Made a w → Line1 tells.Made texts_things a w
      to (tells.Made xs) w h = (xs, h.0.1, refl, h.1)
      to _ w h = absurd (let e = h.0.0 in cc)

  texts_bound : HasTexts (Of schema replies.Bound) bound
  unfolding bound
  texts_bound = texts_as (λ a w h. told_as schema replies.Bound a (tells.Bound h.0) w h.2 ((refl, h.1), h.3)) to (texts_line1 tells.Bound texts_end)
    where
      to : (a : Told) (w : List ℕ) → Of schema replies.Bound a w → Line1 tells.Bound texts_end a w
      to (tells.Bound x) w h = (x, h.0.1, refl, h.1)
      to _ w h = absurd (let e = h.0.0 in cc)

  texts_associated : HasTexts (Of schema replies.Associated) associated
  unfolding associated
  texts_associated = texts_as (λ a w h. told_as schema replies.Associated a (tells.Associated h.0) w h.2 ((refl, h.1), h.3)) to
      (texts_line1 tells.Associated texts_pending)
    where
      to : (a : Told) (w : List ℕ) → Of schema replies.Associated a w → Line1 tells.Associated texts_pending a w
      to (tells.Associated p) w h = (p, h.0.1, refl, h.1)
      to _ w h = absurd (let e = h.0.0 in cc)

  texts_attached : HasTexts (Of schema replies.Attached) attached
  unfolding attached
  texts_attached = texts_as (λ a w h. told_as schema replies.Attached a (tells.Attached h.0) w h.2 ((refl, h.1), h.3)) to
      (texts_line1 tells.Attached texts_index)
    where
      to : (a : Told) (w : List ℕ) → Of schema replies.Attached a w → Line1 tells.Attached texts_index a w
      to (tells.Attached id) w h = (id, h.0.1, refl, h.1)
      to _ w h = absurd (let e = h.0.0 in cc)

  texts_wrote : HasTexts (Of schema replies.Wrote) wrote
  unfolding wrote
  texts_wrote = texts_as (λ a w h. told_as schema replies.Wrote a (tells.Wrote h.0) w h.2 ((refl, h.1), h.3)) to (texts_line1 tells.Wrote texts_end)
    where
      to : (a : Told) (w : List ℕ) → Of schema replies.Wrote a w → Line1 tells.Wrote texts_end a w
      to (tells.Wrote x) w h = (x, h.0.1, refl, h.1)
      to _ w h = absurd (let e = h.0.0 in cc)

  texts_gone_reply : HasTexts (Of schema replies.Closed) gone_reply
  unfolding gone_reply
  texts_gone_reply = texts_as (λ a w h. told_as schema replies.Closed a (tells.Closed h.0) w h.2 ((refl, h.1), h.3)) to (texts_line1 tells.Closed texts_things)
    where
      to : (a : Told) (w : List ℕ) → Of schema replies.Closed a w → Line1 tells.Closed texts_things a w
      to (tells.Closed xs) w h = (xs, h.0.1, refl, h.1)
      to _ w h = absurd (let e = h.0.0 in cc)

  texts_dropped : HasTexts (Of schema replies.Dropped) dropped
  unfolding dropped
  texts_dropped = texts_as (λ a w h. told_as schema replies.Dropped a (tells.Dropped h.0 h.1) w h.4 ((refl, (h.2, h.3)), h.5)) to
      (texts_line2 tells.Dropped texts_index texts_things)
    where
      to : (a : Told) (w : List ℕ) → Of schema replies.Dropped a w → Line2 tells.Dropped texts_index texts_things a w
      to (tells.Dropped id gone) w h = (id, gone, h.0.1.0, h.0.1.1, refl, h.1)
      to _ w h = absurd (let e = h.0.0 in cc)

  texts_bad_reply : HasTexts (Of schema replies.Bad) bad_reply
  unfolding bad_reply
  texts_bad_reply = texts_as (λ a w h. told_as schema replies.Bad a (tells.Bad h.0 h.1) w h.4 ((refl, (h.2, h.3)), h.5)) to
      (texts_line2 tells.Bad texts_bad texts_things)
    where
      to : (a : Told) (w : List ℕ) → Of schema replies.Bad a w → Line2 tells.Bad texts_bad texts_things a w
      to (tells.Bad why gone) w h = (why, gone, h.0.1.0, h.0.1.1, refl, h.1)
      to _ w h = absurd (let e = h.0.0 in cc)

  texts_skipped : HasTexts (Of schema replies.Skipped) (closed line_end tells.Skipped)
  texts_skipped = texts_as (λ a w h. told_as schema replies.Skipped a tells.Skipped w h.0 ((refl, tt), h.1)) to (texts_ends tells.Skipped)
    where
      to : (a : Told) (w : List ℕ) → Of schema replies.Skipped a w → Ends tells.Skipped a w
      to tells.Skipped w h = (refl, h.1)
      to _ w h = absurd (let e = h.0.0 in cc)

  texts_no : HasTexts (Of schema replies.No) refusal
  texts_no = texts_as (λ a w h. told_as schema replies.No a (tells.No h.0) w h.2 ((refl, h.1), h.3)) to texts_refusal
    where
      to : (a : Told) (w : List ℕ) → Of schema replies.No a w → No a w
      to (tells.No why) w h = (why, h.0.1, refl, h.1)
      to _ w h = absurd (let e = h.0.0 in cc)

  texts_sent : HasTexts (Of schema replies.Sent) sent
  unfolding sent
  texts_sent = texts_as (λ a w h. told_as schema replies.Sent a (tells.Sent h.0 h.1) w h.4 ((refl, (h.2, h.3)), h.5)) to
      (texts_line_bytes tells.Sent texts_wide)
    where
      to : (a : Told) (w : List ℕ) → Of schema replies.Sent a w → LineBytes tells.Sent texts_wide a w
      to (tells.Sent request bytes) w h = (request, bytes, h.0.1.0, h.0.1.1, refl, h.1)
      to _ w h = absurd (let e = h.0.0 in cc)

  texts_pausing : HasTexts (Of schema replies.Pausing) (closed line_end tells.Pausing)
  texts_pausing = texts_as (λ a w h. told_as schema replies.Pausing a tells.Pausing w h.0 ((refl, tt), h.1)) to (texts_ends tells.Pausing)
    where
      to : (a : Told) (w : List ℕ) → Of schema replies.Pausing a w → Ends tells.Pausing a w
      to tells.Pausing w h = (refl, h.1)
      to _ w h = absurd (let e = h.0.0 in cc)

  -- what a take got at a moment
  module _ (at : Option ℤ) where
    -- what was got, by three lists: the handles, the pending endpoints and what went
    abbrev Lists3 : ℕ → Target × Tree → ℕ → Told → List ℕ → Type 0
    Lists3 id m request a w = (handles : List Thing) × AreAll IsThing handles × (v : List ℕ)
        × ((u : List ℕ) × ((ps : List PendingId) × AreAll IsPending ps × (t : List ℕ)
        × Line1 (got_of at id m request handles ps) texts_things a t × (u ≡ pendings_text ps ++ t)) × (v ≡ blank ∷ u)) × (w ≡ things_text handles ++ v)

    texts_got_lists : (id : ℕ) (m : Target × Tree) (request : ℕ) → HasTexts (Lists3 id m request) (got_lists at id m request)
    unfolding got_lists
    texts_got_lists id m request = texts_chain texts_things (λ handles k. texts_behind blank (texts_chain texts_pendings
        (λ ps l. texts_line1 (got_of at id m request handles ps) texts_things)))

    -- the number of the request, and the lists
    abbrev Requested : ℕ → Target × Tree → Told → List ℕ → Type 0
    Requested id m a w = (request : ℕ) × IsWide request × (v : List ℕ) × ((u : List ℕ) × Lists3 id m request a u × (v ≡ blank ∷ u))
        × (w ≡ decimal request ++ v)

    -- the message, and the rest
    abbrev Received : MessageSide → ℕ → Told → List ℕ → Type 0
    Received side id a w = (m : Target × Tree) × IsMessage schema side m.0 m.1 × (v : List ℕ) × Requested id m a v
        × (w ≡ (message_text schema m.0 m.1 ++ blank ∷ []) ++ v)

    -- the id, and the rest
    abbrev Numbered : MessageSide → Told → List ℕ → Type 0
    Numbered side a w = (id : ℕ) × IsSmall id × (v : List ℕ) × ((u : List ℕ) × Received side id a u × (v ≡ blank ∷ u)) × (w ≡ decimal id ++ v)

    -- the word of the message's side, and the rest
    abbrev Sided : Told → List ℕ → Type 0
    Sided a w = (v : List ℕ) × ((side : MessageSide) × Unit {0} × (u : List ℕ) × ((t : List ℕ) × Numbered side a t × (u ≡ blank ∷ t))
        × (v ≡ message_word side ++ u)) × (w ≡ blank ∷ v)

    texts_sided : HasTexts Sided (got schema (names_of schema) at)
    unfolding got
    texts_sided = texts_behind blank (texts_chain texts_message_side (λ side k. texts_behind blank (texts_chain texts_index (λ id l. texts_behind blank
        (texts_chain (texts_message schema side) (λ m n. texts_chain texts_wide (λ request o. texts_behind blank (texts_got_lists id m request))))))))

    -- the same by what was got
    abbrev IsGotten : Got → Type 0
    IsGotten g =
        IsSmall g.id × IsMessage schema g.target.side g.target g.parameters × IsWide g.request
        × AreAll IsThing g.handles × AreAll IsPending g.pendings × AreAll IsThing g.gone × (g.moment ≡ at)

    -- what was got, and its text
    abbrev Gotten : Told → List ℕ → Type 0
    Gotten a w = (g : Got) × IsGotten g × (a ≡ tells.Taken g) × (w ≡ got_after schema g)

    -- what was got, by its parts
    abbrev got_with : ℕ → Target × Tree → ℕ → List Thing → List PendingId → List Thing → Got
    got_with id m request handles pendings gone = record {
      id = id;
      target = m.0;
      parameters = m.1;
      request = request;
      handles = handles;
      pendings = pendings;
      gone = gone;
      moment = at;
    }

    got_from : (a : Told) (w : List ℕ) → Sided a w → Gotten a w
    got_from a w h =
        let s = h.1 in
        let i = s.3.1 in
        let r = i.3.1 in
        let q = r.3 in
        let l = q.3.1 in
        let p = l.3.1 in
        let g = p.3 in
        let lists = things_text l.0 ++ blank ∷ (pendings_text p.0 ++ blank ∷ (things_text g.0 ++ line_end ∷ [])) in
        let behind = decimal i.0 ++ blank ∷ ((message_text schema r.0.0 r.0.1 ++ blank ∷ []) ++ (decimal q.0 ++ blank ∷ lists)) in
        let side : r.0.0.side ≡ s.0 = side_is schema s.0 r.0.0 r.0.1 r.1 in
        let message : IsMessage schema r.0.0.side r.0.0 r.0.1 = subst (λ (side : MessageSide). IsMessage schema side r.0.0 r.0.1) (sym side) r.1 in
        let in_lists : q.3.0 ≡ lists = l.4 ∙ ap (λ (v : List ℕ). things_text l.0 ++ v) (l.3.2 ∙ ap (λ (v : List ℕ). blank ∷ v) (p.4
        ∙ ap (λ (v : List ℕ). pendings_text p.0 ++ v) g.3)) in
        let in_request : r.2 ≡ decimal q.0 ++ blank ∷ lists = q.4 ∙ ap (λ (v : List ℕ). decimal q.0 ++ v) (q.3.2 ∙ ap (λ (v : List ℕ). blank ∷ v) in_lists) in
        let in_id : s.3.0 ≡ behind = i.4 ∙ ap (λ (v : List ℕ). decimal i.0 ++ v) (i.3.2 ∙ ap (λ (v : List ℕ). blank ∷ v) (r.4
        ∙ ap (λ (v : List ℕ). (message_text schema r.0.0 r.0.1 ++ blank ∷ []) ++ v) in_request)) in (
          got_with i.0 r.0 q.0 l.0 p.0 g.0,
          (i.1, message, q.1, l.1, p.1, g.1, refl),
          g.2,
          h.2
              ∙ ap (λ (v : List ℕ). blank ∷ v) (s.4 ∙ ap (λ (v : List ℕ). message_word s.0 ++ v) (s.3.2 ∙ ap (λ (v : List ℕ). blank ∷ v) in_id))
              ∙ ap (λ (side : MessageSide). blank ∷ (message_word side ++ blank ∷ behind)) (sym side),
        )

    got_to : (a : Told) (w : List ℕ) → Gotten a w → Sided a w
    got_to a w h =
        let g = h.0 in
        let k = h.1 in
        let m : Target × Tree = (g.target, g.parameters) in
        let gone = blank ∷ (things_text g.gone ++ line_end ∷ []) in
        let ps = pendings_text g.pendings ++ gone in
        let lists = things_text g.handles ++ blank ∷ ps in
        let request = decimal g.request ++ blank ∷ lists in
        let message = (message_text schema g.target g.parameters ++ blank ∷ []) ++ request in
        let id = decimal g.id ++ blank ∷ message in
        let is : a ≡ got_of at g.id m g.request g.handles g.pendings g.gone =
        h.2 ∙ ap (λ (now : Option ℤ). got_of now g.id m g.request g.handles g.pendings g.gone) k.6 in
        let lists3 : Lists3 g.id m g.request a lists =
        (g.handles, k.3, blank ∷ ps, (ps, (g.pendings, k.4, gone, (g.gone, k.5, is, refl), refl), refl), refl) in
        let received : Received g.target.side g.id a message =
        (m, k.1, request, (g.request, k.2, blank ∷ lists, (lists, lists3, refl), refl), refl) in (
          message_word g.target.side ++ blank ∷ id,
          (g.target.side, tt, blank ∷ id, (id, (g.id, k.0, blank ∷ message, (message, received, refl), refl), refl), refl),
          h.3,
        )

    texts_gotten : HasTexts Gotten (got schema (names_of schema) at)
    texts_gotten = texts_as got_from got_to texts_sided

    -- behind its moment, it is what a take got
    taken_from : (a : Told) (w v : List ℕ) → IsMoment at → Gotten a v → w ≡ behind_at at v → Of schema (replies.Got (has_moment at)) a w
    taken_from a w v k h e =
        let g = h.1 in
        told_as schema (replies.Got (has_moment at)) a (tells.Taken h.0) w h.2 (
          (ap (λ (m : Option ℤ). replies.Got (has_moment m)) g.6, (g.0, g.1, g.2, g.3, g.4, g.5, subst IsMoment (sym g.6) k)),
          e ∙ ap (behind_at at) h.3 ∙ ap (λ (m : Option ℤ). behind_at m (got_after schema h.0)) (sym g.6),
        )

    taken_to : (g : Got) → g.moment ≡ at → IsGot schema g → Gotten (tells.Taken g) (got_after schema g)
    taken_to g e h = (g, (h.0, h.1, h.2, h.3, h.4, h.5, e), refl, refl)

  texts_got : HasTexts (Of schema (replies.Got false)) (got schema (names_of schema) None)
  texts_got = texts_as (λ a w h. taken_from None a w w tt h refl) to (texts_gotten None)
    where
      to : (a : Told) (w : List ℕ) → Of schema (replies.Got false) a w → Gotten None a w
      to (tells.Taken g) w h =
          let e : g.moment ≡ None = none_of g.moment (let e = h.0.0 in cc) in
          subst (Gotten None (tells.Taken g)) (sym (h.1 ∙ ap (λ (m : Option ℤ). behind_at m (got_after schema g)) e)) (taken_to None g e h.0.1)
      to _ w h = absurd (let e = h.0.0 in cc)

  -- what was got with a moment
  abbrev GotAt : Told → List ℕ → Type 0
  GotAt a w = (v : List ℕ) × ((z : ℤ) × IsLong z × (u : List ℕ) × Gotten (Some z) a u × (v ≡ signed_decimal z ++ u)) × (w ≡ blank ∷ v)

  texts_got_at : HasTexts (Of schema (replies.Got true)) (got_at schema (names_of schema))
  unfolding got_at
  texts_got_at = texts_as from to (texts_behind blank (texts_chain texts_moment (λ z k. texts_gotten (Some z))))
    where
      from : (a : Told) (w : List ℕ) → GotAt a w → Of schema (replies.Got true) a w
      from a w h = let k = h.1 in taken_from (Some k.0) a w k.2 k.1 k.3 (h.2 ∙ ap (λ (v : List ℕ). blank ∷ v) k.4)

      to : (a : Told) (w : List ℕ) → Of schema (replies.Got true) a w → GotAt a w
      to (tells.Taken g) w h =
          let s = some_of g.moment (let e = h.0.0 in cc) in
          let rest = got_after schema g in (
            signed_decimal s.0 ++ rest,
            (s.0, subst IsMoment s.1 h.0.1.6, rest, taken_to (Some s.0) g s.1 h.0.1, refl),
            h.1 ∙ ap (λ (m : Option ℤ). behind_at m rest) s.1,
          )
      to _ w h = absurd (let e = h.0.0 in cc)

  texts_after : (word : ReplyWord) → HasTexts (Of schema word) (told_after schema (names_of schema) word)
  texts_after replies.Made = texts_made
  texts_after replies.Bound = texts_bound
  texts_after replies.Associated = texts_associated
  texts_after replies.Attached = texts_attached
  texts_after replies.Sent = texts_sent
  texts_after replies.Wrote = texts_wrote
  texts_after (replies.Got false) = texts_got
  texts_after (replies.Got true) = texts_got_at
  texts_after replies.Dropped = texts_dropped
  texts_after (replies.Control word) = texts_noted_after schema word
  texts_after replies.Bad = texts_bad_reply
  texts_after replies.Closed = texts_gone_reply
  texts_after (replies.Notified word) = texts_notified_after schema word
  texts_after replies.Pausing = texts_pausing
  texts_after (replies.Flowed word) = texts_flowed_after schema word
  texts_after replies.Skipped = texts_skipped
  texts_after replies.No = texts_no

  -- a reply that can be printed, by its word and what stands behind it
  abbrev Worded : Told → List ℕ → Type 0
  Worded a w = (word : ReplyWord) × Unit {0} × ((reply_of a ≡ word) × IsTold schema a) × (w ≡ reply_text word ++ after schema a)

  from_worded : (a : Told) (w : List ℕ) → Worded a w → Is (IsTold schema) (λ (a : Told). told_text schema a ++ line_end ∷ []) a w
  from_worded a w h = (h.2.1, h.3 ∙ ap (λ (word : ReplyWord). reply_text word ++ after schema a) (sym h.2.0) ∙ whole schema a)

  to_worded : (a : Told) (w : List ℕ) → Is (IsTold schema) (λ (a : Told). told_text schema a ++ line_end ∷ []) a w → Worded a w
  to_worded a w h = (reply_of a, tt, (refl, h.0), h.1 ∙ sym (whole schema a))

  pub texts_told : HasTexts (Is (IsTold schema) (λ (a : Told). told_text schema a ++ line_end ∷ [])) (told schema (names_of schema))
  unfolding told
  texts_told = texts_as from_worded to_worded (texts_follow (texts_keyword reply_text reply_words each_reply all_replies) (λ word k. texts_after word))
