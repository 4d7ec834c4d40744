-- What look-ups need where names stand.
use Rattle.std.proofs.Common.{◌≡◌, ℕ, List, refl, sym, ◌∙◌, ap, subst}
use Rattle.std.specs.Prelude.{Bool, false, Option, Some, None, IfSome, is_some, slice_get, option_and_then}
use Rattle.std.specs.Option.{option_or}
use Rattle.mj_base.specs.Names.{within}
use Rattle.mojom_files.specs.Refusals.{first_of}
use Rattle.import_order.specs.Imports.{has}
use Rattle.module_resolver.specs.LookUp.{candidates, look_up_from, look_up}
use Rattle.module_resolver.specs.declared.target.Target.{Target}
use Rattle.module_resolver.specs.declared.file_names.FileNames.{FileNames}
use Rattle.module_resolver.specs.declared.name_index.NameIndex.{NameIndex}
use Rattle.module_resolver.specs.declared.seat.Seat.{Seat}
use Rattle.module_resolver.specs.Seats.{owner, node_of, held, IsSeat, IsSeated}
use Rattle.module_resolver.specs.steps.Held.{owner_below}
use Rattle.module_resolver.proofs.Held.{below_is, nothing_within}
use Rattle.module_resolver.proofs.Owned.{found_is}

-- what look-ups need where there is a file
pub seat_is : (files : List FileNames) (file : ℕ) (enclosing : Option (List ℕ)) (o : Option Seat) (seat : Seat) → o ≡ Some seat
    → IsSeated files file enclosing o → IsSeat files file enclosing seat
seat_is files file enclosing o seat is at = subst (λ (e : Option Seat). IfSome e (IsSeat files file enclosing)) is at.is

is_none : {A : Type 0} (o : Option A) → is_some o ≡ false → o ≡ None
is_none None h = refl
is_none (Some x) h = absurd (cc)

-- nothing is found where there is no file
pub found_nowhere : (files : List FileNames) (file : ℕ) (enclosing : Option (List ℕ)) (name : List ℕ) (o : Option Seat) → o ≡ None
    → IsSeated files file enclosing o → None ≡ look_up files file enclosing name
found_nowhere files file enclosing name o none at =
    let nothing : slice_get files file ≡ None = is_none (slice_get files file) (sym at.there ∙ ap (λ (e : Option Seat). is_some e) none) in
    sym (ap (option_and_then (λ (here : FileNames). look_up_from files here enclosing name)) nothing)

within_node : (index : NameIndex) (seen : ℕ → Bool) (outer name : List ℕ) (node : Option ℕ) → node_of index 0 outer ≡ node
    → option_and_then (λ (n : ℕ). owner_below index seen n name) node ≡ owner (held index) seen (within outer name)
within_node index seen outer name None is = sym (nothing_within index seen outer name is)
within_node index seen outer name (Some n) is = below_is index seen outer name n is

-- what is found below the node of the name around a place, or else in the fronts, is found in the first candidate that anything has
around_first : (index : NameIndex) (seen : ℕ → Bool) (fronts : List (List ℕ)) (enclosing : Option (List ℕ)) (name : List ℕ) (at : Option ℕ)
    → option_and_then (node_of index 0) enclosing ≡ at
    → option_or (option_and_then (λ (n : ℕ). owner_below index seen n name) at) (first_of (owner (held index) seen) (candidates None fronts name))
    ≡ first_of (owner (held index) seen) (candidates enclosing fronts name)
around_first index seen fronts None name at is =
    ap
    (λ (o : Option ℕ).
    option_or (option_and_then (λ (n : ℕ). owner_below index seen n name) o) (first_of (owner (held index) seen) (candidates None fronts name)))
    (sym is)
around_first index seen fronts (Some outer) name at is =
    ap (λ (o : Option Target). option_or o (first_of (owner (held index) seen) (candidates None fronts name))) (within_node index seen outer name at is)

-- what is found is what the name means
pub found_here : (files : List FileNames) (file : ℕ) (enclosing : Option (List ℕ)) (name : List ℕ) (seat : Seat) (found : Option Target)
    → IsSeat files file enclosing seat
    → found ≡ option_or (option_and_then (λ (n : ℕ). owner_below seat.index.now (has seat.here.now.seen) n name) seat.node)
    (first_of (owner (held seat.index.now) (has seat.here.now.seen)) (candidates None seat.here.now.fronts name))
    → found ≡ look_up files file enclosing name
found_here files file enclosing name seat found at is =
    is
    ∙ (around_first seat.index.now (has seat.here.now.seen) seat.here.now.fronts enclosing name seat.node at.around
    ∙ found_is files (held seat.index.now) file seat.here.now enclosing name at.are_owners at.there)
