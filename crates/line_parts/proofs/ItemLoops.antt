-- How handles and then pending endpoints are read in a loop.
use Rattle.std.proofs.Common.{◌≡◌, ℕ, ◌-◌, ◌+◌, ◌≤◌, ◌<◌, ◌⊎◌, ◌==◌, List, ◌++◌, Ok, Bool, true, false, sym, subst}
use Rattle.handle_table.specs.declared.thing.Thing.{Thing}
use Rattle.bind_model.specs.declared.endpoint.PendingId.{PendingId}
use Rattle.byte_rules.specs.declared.stop.Stop.{Stop}
use Rattle.byte_rules.specs.Lang.{Lang, Read, front_is, byte, closed, ◌▸◌}
use Rattle.byte_rules.specs.Reading.{Fails}
use Rattle.line_parts.specs.Signs.{comma, closes}
use Rattle.line_parts.specs.Series.{at_most}
use Rattle.line_parts.specs.Lists.{is_pending, item, handle_in, pending_in, more_items}
use Rattle.line_parts.specs.steps.Reading.{gathered, add_items, with_items}
use Rattle.line_parts.specs.declared.items.Item.{Item}
use Rattle.line_parts.proofs.ItemReads.{Lists, none_added, one_added, pushed, alone_err, closed_items, unclosed_items}
use Rattle.line_parts.proofs.SeriesLoops as loops

-- the bracket that ends the items
abbrev ends : ℕ → Bool
ends b = b == closes

-- an item behind a comma
abbrev one : Bool → Lang Item
one seen = comma ▸ item seen

-- whether a pending endpoint has come
abbrev next : Bool → Item → Bool
next seen x = is_pending x

-- the closing bracket
abbrev last : Lang (Unit {0})
last = closed closes tt

-- with what was gathered, what is read of so many items more
abbrev pub going : Lists → ℕ → Bool → List ℕ → Read (Lists × Unit {0})
going front n seen ts = gathered add_items front ((at_most ends one next last n seen).read ts)

-- the items before and those that the bytes have
abbrev pub total : Lists → Bool → List ℕ → Read (Lists × Unit {0})
total before start bytes = gathered add_items before ((more_items start).read bytes)

module _ (before front : Lists) (start seen : Bool) (bytes rest : List ℕ) (count i : ℕ)
    (so_far : going front (count - i) seen rest ≡ total before start bytes) where
  -- the bracket, or none
  pub halts : (count ≤ i) ⊎ (front_is ends rest ≡ true) → (b : ℕ) (after : List ℕ) → (byte closes).read rest ≡ Ok (b, after)
      → with_items before ((more_items start).read bytes) ≡ Ok (front, after)
  halts h b after r = closed_items before front ((more_items start).read bytes) ((byte closes).read rest) b after r
      (loops.halts add_items none_added one_added ends one next last front count i seen rest (total before start bytes) h so_far)

  pub halts_err : (e : Stop) → (count ≤ i) ⊎ (front_is ends rest ≡ true) → Fails e ((byte closes).read rest)
      → Fails e (with_items before ((more_items start).read bytes))
  halts_err e h r = unclosed_items e before front ((more_items start).read bytes) ((byte closes).read rest) r
      (loops.halts add_items none_added one_added ends one next last front count i seen rest (total before start bytes) h so_far)

  -- another item, or none
  pub breaks : (e : Stop) → i < count → front_is ends rest ≡ false → Fails e ((one seen).read rest)
      → Fails e (with_items before ((more_items start).read bytes))
  breaks e lt f r = alone_err e before ((more_items start).read bytes)
      (loops.breaks add_items none_added one_added ends one next last e front count i seen rest (total before start bytes) lt f r so_far)

  pub goes : (x : Item) (after : List ℕ) (hs : List Thing) (ps : List PendingId) → i < count → front_is ends rest ≡ false → (one seen).read rest ≡ Ok (x, after)
      → hs ≡ front.0 ++ handle_in x → ps ≡ front.1 ++ pending_in x → going (hs, ps) (count - (i + 1)) (is_pending x) after ≡ total before start bytes
  goes x after hs ps lt f r e g =
      subst (λ (l : Lists). going l (count - (i + 1)) (is_pending x) after ≡ total before start bytes) (sym (pushed front.0 front.1 x hs ps e g))
      (loops.goes_on add_items none_added one_added ends one next last front count i seen rest x after (total before start bytes) lt f r so_far)
