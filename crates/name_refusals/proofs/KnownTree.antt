-- Full names that are known, at the nodes of a tree.
use Rattle.std.proofs.Common.{◌≡◌, ℕ, ◌<◌, ◌≤◌, List, [], refl, sym, ◌∙◌, ap, subst, arith}
use Rattle.std.proofs.Math.Path.{fun_ext}
use Rattle.std.specs.Prelude.{Bool, true, false, ◌==◌, nat_eq, Option, Some, None, is_some, if◌then◌else◌, option_and_then}
use Rattle.std.proofs.lemmas.Bool.{ne_eqb}
use Rattle.std.proofs.lemmas.Slice.Eq.{bytes_eq-Decides}
use Rattle.indexmap.specs.IndexMap.{get}
use Rattle.mj_base.specs.Names.{named_in, full_name}
use Rattle.name_tree.specs.Walks.{walk, Grows}
use Rattle.name_tree.specs.Trees.{child, count, IsNameTree}
use Rattle.name_tree.specs.declared.tree.NameTree.{NameTree}
use Rattle.name_tree.proofs.Walks.{two_walks, in_tree, kept_walk}
use Rattle.name_tree.proofs.Steps.{same_owner}
use Rattle.name_tree.proofs.Owners.{walk_within, value_kept}
use Rattle.name_refusals.specs.Known.{with_name}
use Rattle.name_refusals.specs.declared.known_names.KnownNames.{KnownNames}
use Rattle.name_refusals.specs.steps.Sets.{is_name}
use Rattle.name_refusals.specs.steps.Trees.{knows, StandsAt, AreKnown, EntersInto}
use Rattle.name_refusals.proofs.Known.{added}

-- where nothing is kept, nothing is found
pub none_kept : {A B : Type 0} (own : A → Option B) → ((n : A) → own n ≡ None) → (o : Option A) → option_and_then own o ≡ None
none_kept own none None = refl
none_kept own none (Some n) = none n

stands_kept : (old new : NameTree) (around : Option (List ℕ)) (node : ℕ)
    → ((name : List ℕ) (found : ℕ) → walk (child old) 0 [] name ≡ Some found → walk (child new) 0 [] name ≡ Some found)
    → StandsAt old around node → StandsAt new around node
stands_kept old new None node kept is = is
stands_kept old new (Some name) node kept is = kept name node is

-- a name is entered
pub entered : (old new : KnownNames) → new.nodes ≡ old.nodes → new.around ≡ old.around → new.at ≡ old.at → AreKnown old → IsNameTree new.tree
    → Grows (child old.tree) (count old.tree) (child new.tree) (count new.tree)
    → EntersInto old new
entered old new nodes around at known tree grows = record {
  known = record {
    tree = tree;
    root = let one = known.root in let more = grows.longer in omega (arith, one, more);
    inside = λ n le. ap (λ m. get nat_eq m n) nodes ∙ known.inside n (let more = grows.longer in omega (arith, more, le));
    around =
        subst (λ o. StandsAt new.tree o new.at) (sym around)
        (subst (StandsAt new.tree old.around) (sym at)
        (stands_kept old.tree new.tree old.around old.at (λ name found is. kept 0 name found is) known.around));
  };
  kept = kept;
  nodes = nodes;
  same = λ name.
      ap is_some
      (ap (λ m. option_and_then (get nat_eq m) (walk (child new.tree) 0 [] name)) nodes
      ∙ same_owner (get nat_eq old.nodes) (child old.tree) (child new.tree) (count old.tree) (count new.tree) tree.tree grows known.inside 0 [] name);
}
  where
    kept : (node : ℕ) (name : List ℕ) (found : ℕ) → walk (child old.tree) node [] name ≡ Some found → walk (child new.tree) node [] name ≡ Some found
    kept node name found is = kept_walk (child old.tree) (child new.tree) grows.kept node [] name found is

-- nothing is entered
pub entered_none : (known : KnownNames) → AreKnown known → EntersInto known known
entered_none known are = record { known = are; kept = λ node name found is. is; nodes = refl; same = λ name. refl }

-- names are entered, and then more
pub entered_twice : (old mid new : KnownNames) → EntersInto old mid → EntersInto mid new → EntersInto old new
entered_twice old mid new one two = record {
  known = two.known;
  kept = λ node name found is. two.kept node name found (one.kept node name found is);
  nodes = two.nodes ∙ one.nodes;
  same = λ name. two.same name ∙ one.same name;
}

-- a module is at hand
pub at_hand : (old mid new : KnownNames) → EntersInto old mid → new.tree ≡ mid.tree → new.nodes ≡ mid.nodes
    → StandsAt mid.tree new.around new.at
    → EntersInto old new
at_hand old mid new both tree nodes stands = record {
  known = record {
    tree = subst (λ t. IsNameTree t) (sym tree) both.known.tree;
    root = subst (λ t. 0 < count t) (sym tree) both.known.root;
    inside = λ n le. ap (λ m. get nat_eq m n) nodes ∙ both.known.inside n (subst (λ t. count t ≤ n) tree le);
    around = subst (λ t. StandsAt t new.around new.at) (sym tree) stands;
  };
  kept = λ node one found is. ap (λ t. walk (child t) node [] one) tree ∙ both.kept node one found is;
  nodes = nodes ∙ both.nodes;
  same = λ one.
      ap is_some
      (ap (λ t. option_and_then (get nat_eq new.nodes) (walk (child t) 0 [] one)) tree
      ∙ ap (λ m. option_and_then (get nat_eq m) (walk (child mid.tree) 0 [] one)) nodes)
      ∙ both.same one;
}

-- a node of a name is one of the tree
pub node_there : (known : KnownNames) → AreKnown known → (node : ℕ) (name : List ℕ) (found : ℕ) → walk (child known.tree) node [] name ≡ Some found
    → found < count known.tree
node_there known are node name found is = in_tree (child known.tree) (count known.tree) are.tree.tree node [] name found is

-- where the names of a module stand is a node of the tree
pub stands_there : (known : KnownNames) → AreKnown known → (around : Option (List ℕ)) (node : ℕ) → StandsAt known.tree around node
    → node < count known.tree
stands_there known are None node is = subst (λ (n : ℕ). n < count known.tree) (sym is) are.root
stands_there known are (Some name) node is = node_there known are 0 name node is

-- the module that is at hand is this one
pub hand_is : (known : KnownNames) → AreKnown known → (name : List ℕ) → is_name known.around name ≡ true → walk (child known.tree) 0 [] name ≡ Some known.at
hand_is known are name is = go known.around is are.around
  where
    go : (around : Option (List ℕ)) → is_name around name ≡ true → StandsAt known.tree around known.at → walk (child known.tree) 0 [] name ≡ Some known.at
    go None is stands = absurd (cc)
    go (Some one) is stands = ap (walk (child known.tree) 0 []) (sym ((bytes_eq-Decides one name).0 is)) ∙ stands

-- a name in a module
pub in_module : (tree : NameTree) (around : Option (List ℕ)) (name : List ℕ) (node : ℕ) → StandsAt tree around node
    → walk (child tree) 0 [] (named_in around name) ≡ walk (child tree) node [] name
in_module tree None name node is = ap (λ (n : ℕ). walk (child tree) n [] name) (sym is)
in_module tree (Some outer) name node is = walk_within (child tree) outer name node is

-- a full name is found from the node of its module on
pub full_walk : (tree : NameTree) (around outer : Option (List ℕ)) (name : List ℕ) (node : ℕ) → StandsAt tree around node
    → walk (child tree) 0 [] (full_name around outer name) ≡ walk (child tree) node [] (named_in outer name)
full_walk tree around None name node is = in_module tree around name node is
full_walk tree around (Some outer) name node is =
    two_walks (child tree) 0 [] (named_in around outer) name
    ∙ (ap (option_and_then (λ (k : ℕ). walk (child tree) k [] name)) (in_module tree around outer node is)
    ∙ sym (two_walks (child tree) node [] outer name))

-- a name in a module stands where it did
pub stays : (old new : KnownNames) → EntersInto old new → (around : Option (List ℕ)) (node : ℕ) → StandsAt old.tree around node
    → StandsAt new.tree around node
stays old new both around node is = stands_kept old.tree new.tree around node (λ name found at. both.kept 0 name found at) is

-- a name is added at its node
pub known_more : (old mid new : KnownNames) (node : ℕ) (name : List ℕ) → EntersInto old mid → new.tree ≡ mid.tree → new.around ≡ mid.around → new.at ≡ mid.at
    → walk (child mid.tree) 0 [] name ≡ Some node
    → ((n : ℕ) → get nat_eq new.nodes n ≡ (if node == n then Some tt else get nat_eq mid.nodes n))
    → AreKnown new × (knows new ≡ with_name (knows old) name)
known_more old mid new node name both tree around at is writes = (
  record {
    tree = subst (λ t. IsNameTree t) (sym tree) both.known.tree;
    root = subst (λ t. 0 < count t) (sym tree) both.known.root;
    inside = λ n le. beyond n (subst (λ t. count t ≤ n) tree le);
    around =
        subst (λ t. StandsAt t new.around new.at) (sym tree)
        (subst (λ o. StandsAt mid.tree o new.at) (sym around) (subst (StandsAt mid.tree mid.around) (sym at) both.known.around));
  },
  ap (λ t. λ (q : List ℕ). is_some (option_and_then (get nat_eq new.nodes) (walk (child t) 0 [] q))) tree
      ∙ (added (λ (q : List ℕ). option_and_then (get nat_eq mid.nodes) (walk (child mid.tree) 0 [] q))
      (λ (q : List ℕ). option_and_then (get nat_eq new.nodes) (walk (child mid.tree) 0 [] q)) name tt
      (value_kept (child mid.tree) (count mid.tree) (get nat_eq mid.nodes) (get nat_eq new.nodes) node name tt both.known.tree.tree is writes)
      ∙ ap (λ (test : List ℕ → Bool). with_name test name) (fun_ext both.same)),
)
  where
    there : node < count mid.tree
    there = node_there mid both.known 0 name node is

    beyond : (n : ℕ) → count mid.tree ≤ n → get nat_eq new.nodes n ≡ None
    beyond n le =
        let differs : (node == n) ≡ false = ne_eqb node n (λ same. let bad : ⊥ = omega (arith, there, le, same) in bad) in
        writes n ∙ (ap (λ (b : Bool). if b then Some tt else get nat_eq mid.nodes n) differs ∙ both.known.inside n le)

-- whether a name was known is seen at its node
pub was_known : (old mid : KnownNames) (node : ℕ) (name : List ℕ) → EntersInto old mid → walk (child mid.tree) 0 [] name ≡ Some node
    → is_some (get nat_eq mid.nodes node) ≡ knows old name
was_known old mid node name both is = ap (λ (o : Option ℕ). is_some (option_and_then (get nat_eq mid.nodes) o)) (sym is) ∙ both.same name
