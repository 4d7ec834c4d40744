-- The members that the stages see are those that are written, with the same ordinals where none is refused.
use Rattle.std.proofs.Common.{◌≡◌, ◌<◌, ◌≤◌, ◌+◌, ◌^◌, ℕ, suc, List, [], ◌∷◌, ◌++◌, length, map, refl, sym, ◌∙◌, ap, subst, arith}
use Rattle.std.specs.Prelude.{Bool, true, false, not, ◌&&◌, pos, int_le, nat_le, Option, Some, None}
use Rattle.std.specs.List.{AllByRecursion, flat_map}
use Rattle.std.proofs.lemmas.Bool.{leb-true}
use Rattle.std.proofs.lemmas.List.{length-map, map-append}
use Rattle.mojom_ast.specs.declared.names.Number.{Number}
use Rattle.mojom_ast.specs.declared.attributes.Attribute.{Attribute}
use Rattle.mojom_ast.specs.declared.definitions.StructMember.{StructMember}
use Rattle.mojom_ast.specs.declared.definitions.StructItem.{StructItem}
use Rattle.mojom_ast.specs.declared.definitions.StructItem.TheVariants as struct_items
use Rattle.mojom_ast.specs.declared.definitions.UnionField.{UnionField}
use Rattle.mojom_ast.specs.declared.definitions.InterfaceMember.{InterfaceMember}
use Rattle.mojom_ast.specs.declared.definitions.InterfaceItem.{InterfaceItem}
use Rattle.mojom_ast.specs.declared.definitions.InterfaceItem.TheVariants as interface_items
use Rattle.mojom_ast.specs.declared.definitions.Parameter.{Parameter}
use Rattle.const_eval.specs.Kinds.{unsigned_bits, is_within, refused_uint32}
use Rattle.const_eval.specs.Refused.{ordinal_or, place_of_ordinal, refused_ordinals, field_member, method_member, struct_members, union_members, interface_members, parameter_members, Member as Ordinal}
use Rattle.kind_scope.specs.Members.{Member, Numbered, field_in, field_of, union_field_of, method_in, method_of, parameter_of, held, ordinal_at, numbered_from, numbered}
use Rattle.kind_refusals.specs.OrdinalRefusals.{ordinals_of}
use Rattle.schema_laws.proofs.Quiet.{both_empty, none_where}
use Rattle.written_laws.specs.Entries.{Entry, field_entry, fields_of, union_entry, union_fields_of, parameter_entry, parameters_of, method_entry, methods_of, Counted, ordinal_of, counted_from, counted}
use Rattle.written_laws.specs.Ordinals.{ordinals}

-- members

-- a member as it is written
abbrev pub entry_of : Member → Entry
entry_of m = record { name = m.name.text; attributes = m.attributes; kind = m.kind; ordinal = m.ordinal; default = m.default }

-- a member's name and ordinal
abbrev pub ordinal_part : Member → Ordinal
ordinal_part m = record { name = m.name; ordinal = m.ordinal }

flat_same : {A B C : Type 0} (f : A → List C) (g : A → List B) (h : B → C) → ((x : A) → f x ≡ map h (g x)) → (xs : List A)
    → flat_map f xs ≡ map h (flat_map g xs)
flat_same {C = C} f g h each [] = refl
flat_same {C = C} f g h each (x ∷ xs) =
    ap (λ (cs : List C). cs ++ flat_map f xs) (each x)
    ∙ (ap (λ (cs : List C). map h (g x) ++ cs) (flat_same f g h each xs) ∙ sym (map-append h (g x) (flat_map g xs)))

map_same : {A B C : Type 0} (f : A → C) (g : A → B) (h : B → C) → ((x : A) → f x ≡ h (g x)) → (xs : List A) → map f xs ≡ map h (map g xs)
map_same {C = C} f g h each [] = refl
map_same {C = C} f g h each (x ∷ xs) =
    ap (λ (c : C). c ∷ map f xs) (each x) ∙ ap (λ (cs : List C). h (g x) ∷ cs) (map_same f g h each xs)

field_same : (attributes : List Attribute) (item : StructItem) → field_entry attributes item ≡ map entry_of (field_in attributes item)
field_same attributes (struct_items.Field f) = refl
field_same attributes (struct_items.Const c) = refl
field_same attributes (struct_items.Enum e) = refl

pub fields_same : (members : List StructMember) → fields_of members ≡ map entry_of (flat_map field_of members)
fields_same members =
    flat_same (λ (m : StructMember). field_entry m.attributes m.item) field_of entry_of (λ m. field_same m.attributes m.item) members

pub union_fields_same : (fields : List UnionField) → union_fields_of fields ≡ map entry_of (map union_field_of fields)
union_fields_same fields = map_same union_entry union_field_of entry_of (λ f. refl) fields

pub parameters_same : (parameters : List Parameter) → parameters_of parameters ≡ map entry_of (map parameter_of parameters)
parameters_same parameters = map_same parameter_entry parameter_of entry_of (λ p. refl) parameters

method_same : (attributes : List Attribute) (item : InterfaceItem) → method_entry attributes item ≡ map entry_of (method_in attributes item)
method_same attributes (interface_items.Method m) = refl
method_same attributes (interface_items.Const c) = refl
method_same attributes (interface_items.Enum e) = refl

pub methods_same : (members : List InterfaceMember) → methods_of members ≡ map entry_of (flat_map method_of members)
methods_same members =
    flat_same (λ (m : InterfaceMember). method_entry m.attributes m.item) method_of entry_of (λ m. method_same m.attributes m.item) members

-- the same of the members whose ordinals are tested

field_ordinal : (attributes : List Attribute) (item : StructItem) → field_member item ≡ map ordinal_part (field_in attributes item)
field_ordinal attributes (struct_items.Field f) = refl
field_ordinal attributes (struct_items.Const c) = refl
field_ordinal attributes (struct_items.Enum e) = refl

pub field_ordinals : (members : List StructMember) → struct_members members ≡ map ordinal_part (flat_map field_of members)
field_ordinals members =
    flat_same (λ (m : StructMember). field_member m.item) field_of ordinal_part (λ m. field_ordinal m.attributes m.item) members

abbrev union_ordinal : UnionField → Ordinal
union_ordinal f = record { name = f.name; ordinal = f.ordinal }

pub union_ordinals : (fields : List UnionField) → union_members fields ≡ map ordinal_part (map union_field_of fields)
union_ordinals fields = map_same union_ordinal union_field_of ordinal_part (λ f. refl) fields

abbrev parameter_ordinal : Parameter → Ordinal
parameter_ordinal p = record { name = p.name; ordinal = p.ordinal }

pub parameter_ordinals : (parameters : List Parameter) → parameter_members parameters ≡ map ordinal_part (map parameter_of parameters)
parameter_ordinals parameters = map_same parameter_ordinal parameter_of ordinal_part (λ p. refl) parameters

method_ordinal : (attributes : List Attribute) (item : InterfaceItem) → method_member item ≡ map ordinal_part (method_in attributes item)
method_ordinal attributes (interface_items.Method m) = refl
method_ordinal attributes (interface_items.Const c) = refl
method_ordinal attributes (interface_items.Enum e) = refl

pub method_ordinals : (members : List InterfaceMember) → interface_members members ≡ map ordinal_part (flat_map method_of members)
method_ordinals members =
    flat_same (λ (m : InterfaceMember). method_member m.item) method_of ordinal_part (λ m. method_ordinal m.attributes m.item) members

-- ordinals

both_parts : (a b : Bool) → (a && b) ≡ true → (a ≡ true) × (b ≡ true)
both_parts true b e = (refl, e)
both_parts false b e = absurd cc

true_of : (b : Bool) → not b ≡ false → b ≡ true
true_of true e = refl
true_of false e = absurd cc

-- a number of uint32 that isn't refused
pub small_number : (file at number : ℕ) → refused_uint32 file at number ≡ [] → number ≤ 4294967295
small_number file at number e =
    let within = true_of (is_within (unsigned_bits 32) (pos number)) (none_where (not (is_within (unsigned_bits 32) (pos number))) _ e) in
    let most : nat_le number 4294967295 ≡ true = (both_parts (int_le (pos 0) (pos number)) (int_le (pos number) (pos 4294967295)) within).1 in
    leb-true number 4294967295 most

or_same : (next : ℕ) (o : Option Number) → ordinal_or next o ≡ ordinal_of next o
or_same next None = refl
or_same next (Some written) = refl

held_same : (next : ℕ) (o : Option Number) → ordinal_of next o ≤ 4294967295 → ordinal_at (held next) o ≡ ordinal_of next o
held_same next None small = omega (arith, small)
held_same next (Some written) small = omega (arith, small)

-- a member and its ordinal as it is written
abbrev pub counted_of : Numbered → Counted
counted_of one = record { entry = entry_of one.member; ordinal = one.ordinal }

-- ordinals and all that follow from them are small
counted_on : (file next : ℕ) (ms : List Member) → refused_ordinals file next (map ordinal_part ms) ≡ []
    → map counted_of (numbered_from (held next) ms) ≡ counted_from next (map entry_of ms)
counted_on file next [] e = refl
counted_on file next (m ∷ ms) e =
    let parts = both_empty (refused_uint32 file (place_of_ordinal (ordinal_part m)) (ordinal_or next m.ordinal))
    (refused_ordinals file (ordinal_or next m.ordinal + 1) (map ordinal_part ms)) e in
    let small : ordinal_of next m.ordinal ≤ 4294967295 =
    subst (λ (n : ℕ). n ≤ 4294967295) (or_same next m.ordinal)
    (small_number file (place_of_ordinal (ordinal_part m)) (ordinal_or next m.ordinal) parts.0) in
    let quiet : refused_ordinals file (ordinal_of next m.ordinal + 1) (map ordinal_part ms) ≡ [] =
    subst (λ (n : ℕ). refused_ordinals file (n + 1) (map ordinal_part ms) ≡ []) (or_same next m.ordinal) parts.1 in
    let rest = counted_on file (ordinal_of next m.ordinal + 1) ms quiet in
    let same = held_same next m.ordinal small in
    let first : ℕ → Counted = λ (n : ℕ). record { entry = entry_of m; ordinal = n } in
    ap (λ (n : ℕ). first n ∷ map counted_of (numbered_from (held (n + 1)) ms)) same
    ∙ ap (λ (cs : List Counted). first (ordinal_of next m.ordinal) ∷ cs) rest

-- members with their ordinals are what is written
pub counted_same : (file : ℕ) (ms : List Member) → refused_ordinals file 0 (map ordinal_part ms) ≡ []
    → map counted_of (numbered ms) ≡ counted (map entry_of ms)
counted_same file ms e =
    let none : held 0 ≡ 0 = omega arith in
    subst (λ (n : ℕ). map counted_of (numbered_from n ms) ≡ counted_from 0 (map entry_of ms)) none (counted_on file 0 ms e)

ordinals_map : (ones : List Numbered) → map (λ (c : Counted). c.ordinal) (map counted_of ones) ≡ ordinals_of ones
ordinals_map [] = refl
ordinals_map (one ∷ ones) = ap (λ (ns : List ℕ). one.ordinal ∷ ns) (ordinals_map ones)

pub ordinals_same : (file : ℕ) (ms : List Member) → refused_ordinals file 0 (map ordinal_part ms) ≡ []
    → ordinals (map entry_of ms) ≡ ordinals_of (numbered ms)
ordinals_same file ms e = sym (ap (λ (cs : List Counted). map (λ (c : Counted). c.ordinal) cs) (counted_same file ms e)) ∙ ordinals_map (numbered ms)

numbered_long : (next : ℕ) (ms : List Member) → length (numbered_from next ms) ≡ length ms
numbered_long next [] = refl
numbered_long next (m ∷ ms) = ap suc (numbered_long (held (ordinal_at next m.ordinal + 1)) ms)

pub as_many : (ms : List Member) → length (numbered ms) ≡ length (map entry_of ms)
as_many ms = numbered_long 0 ms ∙ sym (length-map ms entry_of)

-- ordinals that aren't refused are numbers of 32 bits
pub all_small : (file next : ℕ) (ms : List Member) → refused_ordinals file next (map ordinal_part ms) ≡ []
    → AllByRecursion (λ (ordinal : ℕ). ordinal < 2 ^ 32) (map (λ (c : Counted). c.ordinal) (counted_from next (map entry_of ms)))
all_small file next [] e = tt
all_small file next (m ∷ ms) e =
    let parts = both_empty (refused_uint32 file (place_of_ordinal (ordinal_part m)) (ordinal_or next m.ordinal))
    (refused_ordinals file (ordinal_or next m.ordinal + 1) (map ordinal_part ms)) e in
    let small : ordinal_of next m.ordinal ≤ 4294967295 =
    subst (λ (n : ℕ). n ≤ 4294967295) (or_same next m.ordinal)
    (small_number file (place_of_ordinal (ordinal_part m)) (ordinal_or next m.ordinal) parts.0) in
    let quiet : refused_ordinals file (ordinal_of next m.ordinal + 1) (map ordinal_part ms) ≡ [] =
    subst (λ (n : ℕ). refused_ordinals file (n + 1) (map ordinal_part ms) ≡ []) (or_same next m.ordinal) parts.1 in
    (omega (arith, small), all_small file (ordinal_of next m.ordinal + 1) ms quiet)
