-- Types show what spells them again.
use Rattle.std.proofs.Common.{◌≡◌, ℕ, zero, suc, List, [], ◌∷◌, ◌++◌, Option, Some, None, refl, ap}
use Rattle.std.specs.Prelude.{map, is_some}
use Rattle.std.specs.Option.{option_map}
use Rattle.mojom_ast.specs.declared.token.Keyword.TheVariants as keywords
use Rattle.mojom_ast.specs.declared.token.Symbol.TheVariants.{Comma, Less, Greater, Question}
use Rattle.mojom_ast.specs.declared.token.Sort.{Sort}
use Rattle.mojom_ast.specs.declared.token.Sort.TheVariants as sorts
use Rattle.mojom_ast.specs.declared.token.Token.{Token}
use Rattle.mojom_ast.specs.declared.types.HandleSort.{HandleSort}
use Rattle.mojom_ast.specs.declared.types.HandleSort.TheVariants.{MessagePipe, DataPipeConsumer, DataPipeProducer, SharedBuffer, Platform}
use Rattle.mojom_ast.specs.declared.types.PendingSort.TheVariants.{Remote, Receiver, AssociatedRemote, AssociatedReceiver}
use Rattle.mojom_ast.specs.TypeTrees.{BaseTree, Named, HandleOf, TypeTree}
use Rattle.mojom_ast.specs.Lang.{Lang, Whole, tok, labelled, deep}
use Rattle.mojom_ast.specs.Trees.{inner, behind, make_array, make_map, make_pending, make_type}
use Rattle.mojom_ast.specs.Grammar.{handle_sort, sort_given, handle, pending_sort, pending, count, array, map_of, base, type_starts, type_at, type_within}
use Rattle.mojom_print.specs.Types.{handle_sort_text}
use Rattle.mojom_print.specs.Unplaced.{number_unplaced, base_unplaced, type_unplaced}
use Rattle.mojom_print.proofs.Shows.{sort_of, token_off, both_off, Found}
use Rattle.mojom_print.proofs.FixedSorts.{sort_at, fixed_sort, message_pipe, data_pipe_consumer, data_pipe_producer, shared_buffer, platform}
use Rattle.mojom_print.proofs.Prints.{AllLexical, Printed, Prints, prints_tok, prints_keyword, prints_symbol, ◌then◌, prints_value, ◌or_else◌, option_sorts, prints_maybe}
use Rattle.mojom_print.proofs.Sorts.{sign, handle_sort_sorts, sort_given_sorts, pending_sort_sorts, count_sorts, nullable_sorts, base_sorts, type_sorts}
use Rattle.mojom_print.proofs.ValueRules.{prints_number, prints_name}

prints_word : (c : ℕ) (x : HandleSort) → sort_at c ≡ Some (sorts.Identifier (handle_sort_text x)) → Prints (tok (c ∷ [])) token_off (λ t. handle_sort_sorts x)
prints_word c x at =
    prints_tok (c ∷ []) (λ t. handle_sort_sorts x) (λ t h. ap (λ (s : Sort). s ∷ []) (fixed_sort c t.sort (sorts.Identifier (handle_sort_text x)) at h))

prints_handle_sort : Prints handle_sort (λ x. x) handle_sort_sorts
unfolding handle_sort
prints_handle_sort =
    prints_value (λ t. MessagePipe) (λ x. x) handle_sort_sorts (λ v. refl) (λ v. refl) (prints_word 36 MessagePipe message_pipe)
    or_else prints_value (λ t. DataPipeConsumer) (λ x. x) handle_sort_sorts (λ v. refl) (λ v. refl) (prints_word 37 DataPipeConsumer data_pipe_consumer)
    or_else prints_value (λ t. DataPipeProducer) (λ x. x) handle_sort_sorts (λ v. refl) (λ v. refl) (prints_word 38 DataPipeProducer data_pipe_producer)
    or_else prints_value (λ t. SharedBuffer) (λ x. x) handle_sort_sorts (λ v. refl) (λ v. refl) (prints_word 39 SharedBuffer shared_buffer)
    or_else prints_value (λ t. Platform) (λ x. x) handle_sort_sorts (λ v. refl) (λ v. refl) (prints_word 40 Platform platform)

prints_sort_given : Prints sort_given (λ x. x) sort_given_sorts
unfolding sort_given
prints_sort_given =
    prints_value inner (λ x. x) sort_given_sorts (λ v. refl) (λ v. refl) (prints_symbol Less then prints_handle_sort then prints_symbol Greater)

option_same : (o : Option HandleSort) → HandleOf o ≡ HandleOf (option_map (λ x. x) o)
option_same None = refl
option_same (Some x) = refl

prints_handle : Prints handle base_unplaced base_sorts
unfolding handle
prints_handle =
    prints_value (λ x. HandleOf x.1) base_unplaced base_sorts (λ v. option_same v.1) (λ v. refl)
    (prints_keyword keywords.Handle then prints_maybe prints_sort_given)

prints_pending_sort : Prints pending_sort (λ x. x) pending_sort_sorts
unfolding pending_sort
prints_pending_sort =
    prints_value (λ t. Remote) (λ x. x) pending_sort_sorts (λ v. refl) (λ v. refl) (prints_keyword keywords.PendingRemote)
    or_else prints_value (λ t. Receiver) (λ x. x) pending_sort_sorts (λ v. refl) (λ v. refl) (prints_keyword keywords.PendingReceiver)
    or_else prints_value (λ t. AssociatedRemote) (λ x. x) pending_sort_sorts (λ v. refl) (λ v. refl) (prints_keyword keywords.PendingAssociatedRemote)
    or_else prints_value (λ t. AssociatedReceiver) (λ x. x) pending_sort_sorts (λ v. refl) (λ v. refl) (prints_keyword keywords.PendingAssociatedReceiver)

prints_pending : Prints pending base_unplaced base_sorts
unfolding pending
prints_pending =
    prints_value make_pending base_unplaced base_sorts (λ v. refl) (λ v. refl)
    (prints_pending_sort then prints_symbol Less then prints_name then prints_symbol Greater)

prints_count : Prints count number_unplaced count_sorts
unfolding count
prints_count = prints_value behind number_unplaced count_sorts (λ v. refl) (λ v. refl) (prints_symbol Comma then prints_number)

module _ (inside : Lang TypeTree) (prints_inside : Prints inside type_unplaced type_sorts) where
  prints_array : Prints (array inside) base_unplaced base_sorts
  unfolding array
  prints_array =
      prints_value make_array base_unplaced base_sorts (λ v. refl) (λ v. refl)
      (prints_keyword keywords.Array then prints_symbol Less then prints_inside then prints_maybe prints_count then prints_symbol Greater)

  prints_map : Prints (map_of inside) base_unplaced base_sorts
  unfolding map_of
  prints_map =
      prints_value make_map base_unplaced base_sorts (λ v. refl) (λ v. refl)
      (prints_keyword keywords.Map then prints_symbol Less then prints_inside then prints_symbol Comma then prints_inside then prints_symbol Greater)

  prints_base : Prints (base inside) base_unplaced base_sorts
  unfolding base
  prints_base =
      prints_array or_else prints_map or_else prints_handle or_else prints_pending or_else prints_value Named base_unplaced base_sorts (λ v. refl)
      (λ v. refl) prints_name

type_off : (v : BaseTree × Option Token) → type_unplaced (make_type v) ≡ make_type (both_off base_unplaced (option_map token_off) v)
type_off v = of v.1
  where
    of : (o : Option Token) → ◌≡◌ {A = TypeTree} (record { base = base_unplaced v.0; nullable = is_some o })
        (record { base = base_unplaced v.0; nullable = is_some (option_map token_off o) })
    of None = refl
    of (Some t) = refl

type_shown : (v : BaseTree × Option Token) → base_sorts v.0 ++ option_sorts (λ t. sign Question) v.1 ≡ type_sorts (make_type v)
type_shown v = of v.1
  where
    of : (o : Option Token) → base_sorts v.0 ++ option_sorts (λ t. sign Question) o ≡ base_sorts v.0 ++ nullable_sorts (is_some o)
    of None = refl
    of (Some t) = refl

labelled_printed : {A : Type 0} {one : Lang A} {o : A → A} {s : A → List Sort} (cs : List ℕ) → Prints one o s → Prints (labelled cs one) o s
labelled_printed {A = A} {one = one} {o = o} {s = s} cs a = record { printed = of }
  where
    found : (x : A) (ts : List Token) (rest : List Sort) → Found one o x ts rest → Found (labelled cs one) o x ts rest
    found x ts rest g = record { value = g.value; left = g.left; same = g.same; sorts = g.sorts; follows = g.follows }

    wide : (K : A → List Token → Type 0) → Printed one o s K → Printed (labelled cs one) o s K
    wide K g =
        record {
          value = g.value;
          left = g.left;
          next = g.next;
          all = g.all;
          good = g.good;
          shows = record { shown = λ ts rest e. found g.value ts rest (g.shows.shown ts rest e) };
        }

    of : (K : A → List Token → Type 0) (ts : List Token) → AllLexical (map sort_of ts) → (labelled cs one).followed Whole K ts
        → Printed (labelled cs one) o s K
    of K ts all h = wide K (a.printed K ts all h)

deep_printed : {A : Type 0} {o : A → A} {s : A → List Sort} (cs : List ℕ) → Prints (deep cs) o s
deep_printed {A = A} {o = o} {s = s} cs = record { printed = of }
  where
    of : (K : A → List Token → Type 0) (ts : List Token) → AllLexical (map sort_of ts) → (deep cs).followed Whole K ts → Printed (deep cs) o s K
    of K [] all h = absurd h
    of K (t ∷ ts) all h = absurd h.1

prints_type_at : (n : ℕ) → Prints (type_at n) type_unplaced type_sorts
unfolding type_at
prints_type_at zero = deep_printed type_starts
prints_type_at (suc n) =
    prints_value make_type type_unplaced type_sorts type_off type_shown
    (prints_base (labelled type_starts (type_at n)) (labelled_printed type_starts (prints_type_at n)) then prints_maybe (prints_symbol Question))

-- for the rules that have a type
pub prints_type : (n : ℕ) → Prints (type_within n) type_unplaced type_sorts
prints_type n = labelled_printed type_starts (prints_type_at n)
