-- Kinds that fit, as the law of messages asks for them.
use Rattle.std.proofs.Common.{◌≡◌, ℕ, Bool, true, false, inl, List, Option, Some, None, refl, sym, ap, subst, ◌∙◌}
use Rattle.std.specs.Prelude.{◌==◌, ◌&&◌}
use Rattle.std.proofs.lemmas.Bool.{and_parts}
use Rattle.std.proofs.lemmas.Bool.Decides.{Decides-eqb}
use Rattle.mj_schema.specs.KindTrees as kinds
use Rattle.mj_schema.specs.KindTrees.{KindTree}
use Rattle.mj_schema.specs.Sizes.{bits_of}
use Rattle.mj_schema.specs.declared.kind.HandleSort.{HandleSort}
use Rattle.mj_schema.specs.declared.kind.HandleSort.TheVariants.{Any, MessagePipe, DataPipeConsumer, DataPipeProducer, SharedBuffer, Platform}
use Rattle.mj_schema.specs.declared.kind.Width.{Width}
use Rattle.mj_schema.specs.declared.kind.Width.TheVariants.{Bits8, Bits16, Bits32, Bits64}
use Rattle.wire_laws.specs.Carried.{Grows, CountFits, KindFits}
use Rattle.compat_model.specs.declared.pair.Pair.{Pair}
use Rattle.compat_model.specs.declared.pair.Pair.TheVariants.{Structs, Unions, Enums}
use Rattle.compat_model.specs.steps.Among.{IsAmong}
use Rattle.compat_model.specs.Kinds.{is_kept, is_same, count_fits, sort_number, are_namesakes, kinds_fit, named_in}
use Rattle.compat_model.proofs.Lists.{left_among, right_among}
use Rattle.compat_laws.specs.steps.Reached.{carried}

same_width : (w x : Width) → (bits_of w == bits_of x) ≡ true → w ≡ x
same_width Bits8 Bits8 e = refl
same_width Bits16 Bits16 e = refl
same_width Bits32 Bits32 e = refl
same_width Bits64 Bits64 e = refl
same_width w x e = absurd cc

same_sort : (s t : HandleSort) → (sort_number s == sort_number t) ≡ true → s ≡ t
same_sort Any Any e = refl
same_sort MessagePipe MessagePipe e = refl
same_sort DataPipeConsumer DataPipeConsumer e = refl
same_sort DataPipeProducer DataPipeProducer e = refl
same_sort SharedBuffer SharedBuffer e = refl
same_sort Platform Platform e = refl
same_sort s t e = absurd cc

pub same_flag : (a b : Bool) → is_same a b ≡ true → a ≡ b
same_flag true true e = refl
same_flag true false e = absurd cc
same_flag false true e = absurd cc
same_flag false false e = refl

pub grows : (n m : Bool) → is_kept n m ≡ true → Grows n m
grows true m e h = e
grows false m e h = let no : false ≡ true = h in absurd cc

counts : (c d : Option ℕ) → count_fits c d ≡ true → CountFits c d
counts c None e = λ n h. refl
counts None (Some m) e = absurd cc
counts (Some n) (Some m) e = λ x h. subst (λ y. (x == y) ≡ true) ((Decides-eqb n m).0 e) h

-- it holds of each pair of a list
abbrev pub AllPairs : (Pair → Type 0) → List Pair → Type 0
AllPairs P ps = (p : Pair) → IsAmong ps p → P p

module _ (namesakes : List (Option ℕ)) (P : Pair → Type 0) where
  endpoints : (i j : ℕ) (n m : Bool) → (is_kept n m && are_namesakes namesakes i j) ≡ true → Grows n m
  endpoints i j n m e = grows n m (and_parts (is_kept n m) (are_namesakes namesakes i j) e).0

  pub kinds_view : (k l : KindTree) → kinds_fit namesakes k l ≡ true → AllPairs P (named_in k l) → KindFits (carried P) k l
  kinds_view (kinds.BoolKind n) (kinds.BoolKind m) e ps = ap kinds.BoolKind (sym (same_flag n m e))
  kinds_view (kinds.IntKind w s n) (kinds.IntKind x t m) e ps =
      let parts = and_parts (bits_of w == bits_of x) (is_same s t && is_same n m) e in
      let flags = and_parts (is_same s t) (is_same n m) parts.1 in
      sym (ap (λ y. kinds.IntKind y s n) (same_width w x parts.0) ∙ ap (λ y. kinds.IntKind x y n) (same_flag s t flags.0)
      ∙ ap (kinds.IntKind x t) (same_flag n m flags.1))
  kinds_view (kinds.EnumKind i n) (kinds.EnumKind j m) e ps = (j, ap (kinds.EnumKind j) (sym (same_flag n m e)), ps (Enums i j) (inl refl))
  kinds_view (kinds.TextKind n) (kinds.TextKind m) e ps = (m, refl, grows n m e)
  kinds_view (kinds.HandleKind s n) (kinds.HandleKind t m) e ps =
      let parts = and_parts (sort_number s == sort_number t) (is_kept n m) e in
      (m, sym (ap (λ y. kinds.HandleKind y m) (same_sort s t parts.0)), grows n m parts.1)
  kinds_view (kinds.ArrayKind k c n) (kinds.ArrayKind l d m) e ps =
      let parts = and_parts (is_kept n m) (count_fits c d && kinds_fit namesakes k l) e in
      let more = and_parts (count_fits c d) (kinds_fit namesakes k l) parts.1 in
      (l, d, m, refl, kinds_view k l more.1 ps, counts c d more.0, grows n m parts.0)
  kinds_view (kinds.MapKind k v n) (kinds.MapKind l u m) e ps =
      let parts = and_parts (is_kept n m) (kinds_fit namesakes k l && kinds_fit namesakes v u) e in
      let more = and_parts (kinds_fit namesakes k l) (kinds_fit namesakes v u) parts.1 in (
        l,
        u,
        m,
        refl,
        kinds_view k l more.0 (λ p h. ps p (left_among (named_in k l) (named_in v u) p h)),
        kinds_view v u more.1 (λ p h. ps p (right_among (named_in k l) (named_in v u) p h)),
        grows n m parts.0,
      )
  kinds_view (kinds.StructKind i n) (kinds.StructKind j m) e ps = (j, m, refl, ps (Structs i j) (inl refl), grows n m e)
  kinds_view (kinds.UnionKind i n) (kinds.UnionKind j m) e ps = (j, m, refl, ps (Unions i j) (inl refl), grows n m e)
  kinds_view (kinds.RemoteKind i n) (kinds.RemoteKind j m) e ps = (j, m, refl, endpoints i j n m e)
  kinds_view (kinds.ReceiverKind i n) (kinds.ReceiverKind j m) e ps = (j, m, refl, endpoints i j n m e)
  kinds_view (kinds.AssociatedRemoteKind i n) (kinds.AssociatedRemoteKind j m) e ps = (j, m, refl, endpoints i j n m e)
  kinds_view (kinds.AssociatedReceiverKind i n) (kinds.AssociatedReceiverKind j m) e ps = (j, m, refl, endpoints i j n m e)
  kinds_view k l e ps = absurd cc
