-- How the pairs of a map are read.
use Rattle.std.proofs.Common.{◌≡◌, ℕ, List, [], ◌∷◌, ◌++◌, Ok, Err, false, ◌==◌, refl, sym, ap, ◌∙◌, append_assoc}
use Rattle.std.proofs.lemmas.List.{append-nil}
use Rattle.wire_model.specs.Trees.{Tree}
use Rattle.byte_rules.specs.declared.stop.Stop.{Stop}
use Rattle.byte_rules.specs.declared.stop.Stop.TheVariants as stops
use Rattle.byte_rules.specs.Lang.{Lang, Read, ◌>>=◌, byte, as_value, front_is, listed, many, ◌▸◌}
use Rattle.byte_rules.specs.Reading.{Fails}
use Rattle.byte_rules.specs.steps.Reading.{gathered}
use Rattle.value_text.specs.Rules.{keys_of, values_of, map_of, pairs_of}
use Rattle.value_text.specs.steps.Reading.{add_pairs}

abbrev Lists : Type 0
Lists = List Tree × List Tree

pub none_added : (front : Lists) → add_pairs front [] ≡ front
none_added (ks, vs) = ap (λ (l : List Tree). (l, vs ++ [])) (append-nil ks) ∙ ap (λ (l : List Tree). (ks, l)) (append-nil vs)

pub one_added : (front : Lists) (p : Tree × Tree) (ps : List (Tree × Tree)) → add_pairs front (p ∷ ps) ≡ add_pairs (add_pairs front (p ∷ [])) ps
one_added (ks, vs) p ps =
    ap (λ (l : List Tree). (l, vs ++ p.1 ∷ values_of ps)) (sym (append_assoc ks (p.0 ∷ []) (keys_of ps)))
    ∙ ap (λ (l : List Tree). ((ks ++ p.0 ∷ []) ++ keys_of ps, l)) (sym (append_assoc vs (p.1 ∷ []) (values_of ps)))

first_on : (p : Tree × Tree) (r : Read (List (Tree × Tree)))
    → gathered add_pairs ([], []) (r >>= λ y. Ok (p ∷ y.0, y.1)) ≡ gathered add_pairs (p.0 ∷ [], p.1 ∷ []) r
first_on p (Ok y) = refl
first_on p (Err n) = refl

-- the pairs of a list, of which the first was read
pub first_pair : (one : Lang (Tree × Tree)) (bs rest : List ℕ) (p : Tree × Tree) (ks vs : List Tree) → front_is (λ b. b == 125) bs ≡ false
    → one.read bs ≡ Ok (p, rest) → ks ≡ p.0 ∷ [] → vs ≡ p.1 ∷ []
    → gathered add_pairs ([], []) ((listed 125 one).read bs) ≡ gathered add_pairs (ks, vs) ((many 125 (44 ▸ one)).read rest)
first_pair one bs rest p ks vs e r k v = rw (e, r, k, v) (first_on p ((many 125 (44 ▸ one)).read rest))

-- the map of what was read
abbrev mapped : Read (List (Tree × Tree)) → Read Tree
mapped r = r >>= λ x. Ok (pairs_of x.0, x.1)

map_at : (r : Read (List (Tree × Tree))) (ks vs : List Tree) (rest : List ℕ) → gathered add_pairs ([], []) r ≡ Ok ((ks, vs), rest)
    → mapped r ≡ Ok (map_of ks vs, rest)
map_at (Ok x) ks vs rest e = ap (λ (r : Read Lists). of r) e
  where
    of : Read Lists → Read Tree
    of (Ok y) = Ok (map_of y.0.0 y.0.1, y.1)
    of (Err n) = Err n
map_at (Err n) ks vs rest e = absurd (cc)

pub map_read : (one : Lang (Tree × Tree)) (bs : List ℕ) (ks vs : List Tree) (rest : List ℕ)
    → gathered add_pairs ([], []) ((listed 125 one).read bs) ≡ Ok ((ks, vs), rest)
    → (as_value pairs_of (listed 125 one)).read bs ≡ Ok (map_of ks vs, rest)
map_read one bs ks vs rest e = map_at ((listed 125 one).read bs) ks vs rest e

fails_at : (e : Stop) (r : Read (List (Tree × Tree))) → Fails e (gathered add_pairs ([], []) r) → Fails e (mapped r)
fails_at stops.Memory r h = tt
fails_at (stops.Left n) (Ok x) h = absurd (cc)
fails_at (stops.Left n) (Err m) h = let k : m ≡ n = cc in ap (λ (k : ℕ). Err k) k

pub map_fails : (e : Stop) (one : Lang (Tree × Tree)) (bs : List ℕ) → Fails e (gathered add_pairs ([], []) ((listed 125 one).read bs))
    → Fails e ((as_value pairs_of (listed 125 one)).read bs)
map_fails e one bs h = fails_at e ((listed 125 one).read bs) h

pub map_ok : (one : Lang (Tree × Tree)) (bs rest after : List ℕ) (ks vs : List Tree) (t : Tree) → (byte 123).read bs ≡ Ok (123, rest)
    → gathered add_pairs ([], []) ((listed 125 one).read rest) ≡ Ok ((ks, vs), after) → t ≡ map_of ks vs
    → (123 ▸ as_value pairs_of (listed 125 one)).read bs ≡ Ok (t, after)
map_ok one bs rest after ks vs t r g e = rw r (map_read one rest ks vs after g ∙ ap (λ (u : Tree). Ok (u, after)) (sym e))

pub map_err : (stop : Stop) (one : Lang (Tree × Tree)) (bs rest : List ℕ) → (byte 123).read bs ≡ Ok (123, rest)
    → Fails stop (gathered add_pairs ([], []) ((listed 125 one).read rest)) → Fails stop ((123 ▸ as_value pairs_of (listed 125 one)).read bs)
map_err stop one bs rest r g = rw r (map_fails stop one rest g)
