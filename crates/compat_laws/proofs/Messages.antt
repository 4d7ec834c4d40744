-- A message that a compatible older schema wrote stands by the newer one.
use Rattle.std.proofs.Common.{◌≡◌, ℕ, zero, ◌%◌, true, inl, inr, List, [], ◌∷◌, ◌++◌, length, Option, Some, None, refl, sym, ap, subst, ◌∙◌}
use Rattle.std.specs.Prelude.{◌==◌, is_some, slice_get}
use Rattle.mj_base.specs.declared.fault.FaultKind.TheVariants.{MessageHeaderInvalidFlags}
use Rattle.mj_base.specs.Bytes.{number32}
use Rattle.mj_schema.specs.Lookups.{method_in}
use Rattle.mj_schema.specs.declared.rows.InterfaceRow.{InterfaceRow}
use Rattle.mj_schema.specs.declared.rows.MethodRow.{MethodRow}
use Rattle.mj_schema.specs.declared.rows.RowSort.TheVariants.{Interface}
use Rattle.mj_schema.specs.declared.schema.Schema.{Schema}
use Rattle.wire_model.specs.Expected.{message_marks, method_marks, parameter_marks, struct_of, flags_of}
use Rattle.wire_model.specs.HeaderMarks.{header_marks}
use Rattle.wire_model.specs.Marks.{Mark, Test, Object, Handle, Id}
use Rattle.wire_model.specs.Message.{Head, is_plain, payload_start, payload_end, ids_read, request_read, written_request}
use Rattle.wire_model.specs.Stands.{IsFine, IsSettled}
use Rattle.wire_model.specs.Tight.{MAX_DEPTH, MessageStandsFor, marks_of, payload_of, value_of, tight_message}
use Rattle.wire_model.specs.Trees.{Trees, Fields}
use Rattle.wire_model.specs.declared.target.MessageSide.{MessageSide}
use Rattle.wire_model.specs.declared.target.MessageSide.TheVariants.{Request, Response}
use Rattle.message_header.proofs.Fine.{AreTests, header_tests}
use Rattle.wire_laws.specs.Grown.{grown_parameters}
use Rattle.wire_laws.proofs.Whole.{message_carries}
use Rattle.compat_model.specs.declared.pair.Pair.TheVariants.{Structs, Interfaces}
use Rattle.compat_model.specs.steps.Among.{IsAmong}
use Rattle.compat_model.specs.Pairs.{of_both, response_pair, message_pairs}
use Rattle.compat_model.specs.declared.root.Root.{Root}
use Rattle.compat_model.specs.Verdicts.{root_pairs, roots, IsCompatible}
use Rattle.compat_model.proofs.Lists.{into_flat}
use Rattle.compat_laws.specs.Read.{IsWritten, IsRead}
use Rattle.compat_laws.specs.steps.Reached.{carried, Reached}
use Rattle.compat_laws.proofs.There.{there}
use Rattle.compat_laws.proofs.Closed.{closed, methods}
use Rattle.compat_laws.proofs.Kept.{parameters_kept}
use Rattle.compat_laws.proofs.Requests.{said_request}

-- tests that hold may stand before marks that are settled
after_tests : (ms ns : List Mark) (start end h i : ℕ) → AreTests ms → IsFine ms → IsSettled ns start end h i → IsSettled (ms ++ ns) start end h i
after_tests [] ns start end h i tests fine s = s
after_tests (Test b k at ∷ ms) ns start end h i tests fine s =
    let rest = after_tests ms ns start end h i tests fine.1 s in
    record { fine = (fine.0, rest.fine); orderly = rest.orderly; handles_rise = rest.handles_rise; ids_rise = rest.ids_rise }
after_tests (Object a b c d e ∷ ms) ns start end h i tests fine s = absurd tests
after_tests (Handle a b ∷ ms) ns start end h i tests fine s = absurd tests
after_tests (Id a b ∷ ms) ns start end h i tests fine s = absurd tests

flags_same : (side : MessageSide) (a b : Option ℕ) → is_some a ≡ is_some b → flags_of side a ≡ flags_of side b
flags_same Request None None e = refl
flags_same Request (Some x) (Some y) e = refl
flags_same Request None (Some y) e = absurd cc
flags_same Request (Some x) None e = absurd cc
flags_same Response a b e = refl

flags_low : (side : MessageSide) (a : Option ℕ) → (flags_of side a % 4 == flags_of side a) ≡ true
flags_low Request None = refl
flags_low Request (Some x) = refl
flags_low Response a = refl

-- the structs that two methods have for a side are a pair
structs_paired : (side : MessageSide) (m n : MethodRow) (i : ℕ) → struct_of side m ≡ Some i → is_some m.response ≡ is_some n.response
    → (j : ℕ) × (struct_of side n ≡ Some j) × IsAmong (message_pairs m n) (Structs i j)
structs_paired Request m n i e same =
    let is : m.request ≡ i = cc in (n.request, refl, inl (ap (λ (x : ℕ). Structs x n.request) is))
structs_paired Response m n i e same = response_paired m.response n.response e same
  where
    response_paired : (a b : Option ℕ) → a ≡ Some i → is_some a ≡ is_some b
        → (j : ℕ) × (b ≡ Some j) × IsAmong (Structs m.request n.request ∷ of_both [] response_pair a b) (Structs i j)
    response_paired None b e same = absurd cc
    response_paired (Some x) None e same = absurd cc
    response_paired (Some x) (Some y) e same = let is : x ≡ i = cc in (y, refl, inr (inl (ap (λ (z : ℕ). Structs z y) is)))

module _ (old new : Schema) (ok : IsCompatible old new) where
  -- an interface that is a root, with its partner
  interfaces_paired : (interface partner : ℕ) → IsAmong (roots old new) (record {
    definition = record { sort = Interface; number = interface };
    partner = Some partner;
  }) → Reached old new (Interfaces interface partner)
  interfaces_paired interface partner among =
      let root : Root = record { definition = record { sort = Interface; number = interface }; partner = Some partner } in
      (zero, into_flat root_pairs (roots old new) root (Interfaces interface partner) among (inl refl))

  pub read : (interface partner number handle_count : ℕ) (row : InterfaceRow) (side : MessageSide) (head : Head) (ts : Trees)
      → IsAmong (roots old new) (record { definition = record { sort = Interface; number = interface }; partner = Some partner })
      → slice_get old.interfaces interface ≡ Some row → IsWritten old interface side head number ts handle_count
      → IsRead new partner side head (tight_message old number ts head) ts handle_count
  unfolding message_marks
  read interface partner number handle_count row side head ts among found written =
      let bytes = tight_message old number ts head in
      let pair = interfaces_paired interface partner among in
      let m = written.method in
      let counterpart = methods old new ok (there old new ok) interface partner row head.name m pair found written.named in
      let n = counterpart.0 in
      let structs = structs_paired side m n number written.struct counterpart.2 in
      let j = structs.0 in
      let reached_structs : Reached old new (Structs number j) = counterpart.3 (Structs number j) structs.2 in
      let carried_ : MessageStandsFor new bytes head j (grown_parameters new j ts) handle_count =
      message_carries old new (carried (Reached old new)) (closed old new ok (there old new ok)) number j ts handle_count head reached_structs written.room
      written.encodable in
      let heads = carried_.heads in
      let flags : number32 bytes 16 ≡ flags_of side n.response = heads.flags ∙ written.flags ∙ flags_same side m.response n.response counterpart.2 in
      let low : (number32 bytes 16 % 4 == flags_of side n.response) ≡ true =
      ap (λ (x : ℕ). x % 4 == flags_of side n.response) flags ∙ flags_low side n.response in
      let named : method_in new.interfaces partner (number32 bytes 12) ≡ Some n = ap (method_in new.interfaces partner) heads.name ∙ counterpart.1 in
      let marks : method_marks new side bytes (method_in new.interfaces partner (number32 bytes 12))
      ≡ Test (number32 bytes 16 % 4 == flags_of side n.response) MessageHeaderInvalidFlags 16 ∷ marks_of new bytes (payload_start bytes) j =
      ap (method_marks new side bytes) named ∙ ap (parameter_marks new side bytes n) structs.1 in
      let payload : IsSettled (marks_of new bytes (payload_start bytes) j) (payload_start bytes) (payload_end bytes) handle_count (length (ids_read bytes)) =
      subst (λ (l : List ℕ). IsSettled (marks_of new bytes (payload_start bytes) j) (payload_start bytes) (payload_end bytes) handle_count (length l))
      (sym heads.ids)
      (subst (λ (x : ℕ). IsSettled (marks_of new bytes (payload_start bytes) j) (payload_start bytes) x handle_count (length head.ids)) (sym heads.ends)
      (subst (λ (x : ℕ). IsSettled (marks_of new bytes x j) x carried_.end handle_count (length head.ids)) (sym heads.starts) carried_.stands.settled)) in
      let all : IsSettled (header_marks bytes ++ (Test (number32 bytes 16 % 4 == flags_of side n.response) MessageHeaderInvalidFlags 16
      ∷ marks_of new bytes (payload_start bytes) j)) (payload_start bytes) (payload_end bytes) handle_count (length (ids_read bytes)) =
      after_tests (header_marks bytes) _ (payload_start bytes) (payload_end bytes) handle_count (length (ids_read bytes)) (header_tests bytes) heads.fine
      (record { fine = (low, payload.fine); orderly = payload.orderly; handles_rise = payload.handles_rise; ids_rise = payload.ids_rise }) in
      let value : value_of new bytes (payload_start bytes) j ≡ Fields (grown_parameters new j ts) =
      ap (λ (x : ℕ). value_of new bytes x j) heads.starts ∙ carried_.stands.means in
      let request : request_read bytes ≡ written_request (is_plain head.flags) head.request =
      said_request head (payload_of old number ts) heads.request in
      record {
        method = n;
        named = counterpart.1;
        number = j;
        struct = structs.1;
        stands = record {
          settled =
              subst (λ (ms : List Mark). IsSettled (header_marks bytes ++ ms) (payload_start bytes) (payload_end bytes) handle_count (length (ids_read bytes)))
              (sym marks) all;
        };
        ids = heads.ids;
        means = λ i. record { method = heads.name i; request = request i; moment = heads.moment i; value = value i };
        kept =
            parameters_kept old new (carried (Reached old new)) (closed old new ok (there old new ok)) number j MAX_DEPTH ts reached_structs
            written.encodable.fits;
      }
