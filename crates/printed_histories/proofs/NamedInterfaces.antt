-- The name of an interface that a word names means it.
use Rattle.std.proofs.Common.{◌≡◌, ℕ, suc, ◌+◌, Bool, false, true, cond, List, [], ◌∷◌, Some, refl, sym, ap, ◌∙◌, arith}
use Rattle.std.specs.Prelude.{slice_get}
use Rattle.std.specs.List.{position_from}
use Rattle.std.specs.Str.{bytes_eq}
use Rattle.std.proofs.lemmas.Iterator.Adapters.{position_from-zero}
use Rattle.mj_schema.specs.Lookups.{interface_named}
use Rattle.mj_schema.specs.declared.rows.InterfaceRow.{InterfaceRow}
use Rattle.mj_schema.specs.declared.schema.Schema.{Schema}
use Rattle.line_parts.specs.Printable.{IsInterface}
use Rattle.line_parts.specs.Schemas.{IsPrintableSchema}

-- what stands at a place, so many places behind another
pub record StandsAt {A : Type 0} (xs : List A) (k n : ℕ) : Type 0 where
  pub one : A
  pub behind : ℕ
  pub place : n ≡ k + behind
  pub at : slice_get xs behind ≡ Some one

stands_at : {A : Type 0} (test : A → Bool) (k : ℕ) (xs : List A) (n : ℕ) → position_from test k xs ≡ Some n → StandsAt xs k n
stands_at test k [] n e = absurd (cc)
stands_at {A} test k (x ∷ xs) n e = go (test x) e (stands_at test (k + 1) xs n)
  where
    go : (b : Bool) → cond b (Some k) (position_from test (k + 1) xs) ≡ Some n → (position_from test (k + 1) xs ≡ Some n → StandsAt xs (k + 1) n)
        → StandsAt (x ∷ xs) k n
    go true e rest = let same : k ≡ n = cc in record { one = x; behind = 0; place = omega (arith, same); at = refl }
    go false e rest = let next = rest e in record { one = next.one; behind = suc next.behind; place = omega (arith, next.place); at = next.at }

-- the interface that a word names
pub named_interface_means : (schema : Schema) → IsPrintableSchema schema → (word : List ℕ) (n : ℕ) → interface_named schema.interfaces word ≡ Some n
    → IsInterface schema n
named_interface_means schema words word n e =
    let test : InterfaceRow → Bool = λ row. bytes_eq row.name word in
    let found = stands_at test 0 schema.interfaces n (sym (position_from-zero test schema.interfaces) ∙ e) in
    let place : found.behind ≡ n = omega (arith, found.place) in
    words.interfaces n found.one (ap (slice_get schema.interfaces) (sym place) ∙ found.at)
