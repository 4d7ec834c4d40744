-- Requests in a set, and the responses that events got.
use Rattle.std.proofs.Common.{◌≡◌, ℕ, Bool, true, false, List, refl, sym, ap, ◌∙◌}
use Rattle.std.specs.Prelude.{◌==◌, ◌&&◌, ◌||◌, cond, Option, Some, None, if◌then◌else◌}
use Rattle.std.specs.BTreeMap.{is_at}
use Rattle.std.specs.List.{list_any}
use Rattle.std.proofs.lemmas.Bool.{eqb-true, eq-eqb}
use Rattle.mj_base.specs.declared.ids.EndId.{EndId}
use Rattle.handle_table.specs.Things.{same_end}
use Rattle.bind_model.specs.Names.{request_name, same_request}
use Rattle.bind_model.specs.Replies.{is_response}
use Rattle.bind_model.specs.declared.asked.Asked.{Asked}
use Rattle.bind_model.specs.declared.asked.Asked.TheVariants.{Take}
use Rattle.bind_model.specs.declared.names.RequestName.{RequestName}
use Rattle.bind_model.specs.declared.told.Told.{Told}
use Rattle.bind_model.specs.declared.told.Told.TheVariants.{Taken}
use Rattle.bind_model.proofs.NameOrder.{request_alike, request_cmp}
use Rattle.callback_laws.specs.Callbacks.{gets_response}
use Rattle.event_notes.specs.steps.Got.{has_request, response_of}

-- ## Sets by the order of names

pub has_is : (names : List RequestName) (q : RequestName) → list_any (is_at (request_cmp q)) names ≡ has_request names q
has_is names q = ap (λ (test : RequestName → Bool). list_any test names) (λ i name. request_alike q name i)

either : (b c : Bool) → cond b true c ≡ (c || b)
either true true = refl
either true false = refl
either false true = refl
either false false = refl

-- ## The same request

eqb-turned : (m n : ℕ) → (m == n) ≡ (n == m)
eqb-turned m n = go (m == n) (n == m) refl refl
  where
    go : (b c : Bool) → (m == n) ≡ b → (n == m) ≡ c → b ≡ c
    go true true e h = refl
    go false false e h = refl
    go true false e h = let t : (n == m) ≡ true = eq-eqb n m (sym (eqb-true m n e)) in cc
    go false true e h = let t : (m == n) ≡ true = eq-eqb m n (sym (eqb-true n m h)) in cc

same_turned : (x y : EndId) → same_end x y ≡ same_end y x
same_turned x y =
    ap (λ (b : Bool). b && (x.serial == y.serial)) (eqb-turned x.seq y.seq) ∙ ap (λ (b : Bool). (y.seq == x.seq) && b) (eqb-turned x.serial y.serial)

pub request_turned : (a b : RequestName) → same_request a b ≡ same_request b a
request_turned a b =
    ap (λ (c : Bool). (c && (a.endpoint.id == b.endpoint.id)) && (a.request == b.request)) (same_turned a.endpoint.end b.endpoint.end)
    ∙ (ap (λ (c : Bool). (same_end b.endpoint.end a.endpoint.end && c) && (a.request == b.request)) (eqb-turned a.endpoint.id b.endpoint.id)
    ∙ ap (λ (c : Bool). (same_end b.endpoint.end a.endpoint.end && (b.endpoint.id == a.endpoint.id)) && c) (eqb-turned a.request b.request))

-- one request more
pub added : (old new : List RequestName) (name : RequestName)
    → ((q : RequestName) → list_any (is_at (request_cmp q)) new ≡ cond (is_at (request_cmp name) q) true (list_any (is_at (request_cmp q)) old))
    → (q : RequestName) → has_request new q ≡ (has_request old q || same_request name q)
added old new name h q =
    sym (has_is new q)
    ∙ (h q
    ∙ (ap (λ (b : Bool). cond b true (list_any (is_at (request_cmp q)) old)) (request_alike name q)
    ∙ (ap (λ (b : Bool). cond (same_request name q) true b) (has_is old q) ∙ either (same_request name q) (has_request old q))))

-- ## What an event got

-- whether this is the request
abbrev pub is_it : RequestName → Option RequestName → Bool
is_it q None = false
is_it q (Some name) = same_request q name

last_first : (a b c d : Bool) → (a && b && c && d) ≡ (c && ((a && b) && d))
last_first true true true d = refl
last_first true true false d = refl
last_first true false true d = refl
last_first true false false d = refl
last_first false b true d = refl
last_first false b false d = refl

pub got_is : (q : RequestName) (told : Told) (asked : Asked)
    → gets_response q.endpoint.end q.endpoint.id q.request told asked ≡ is_it q (response_of told asked)
got_is q (Taken g) (Take y) =
    last_first (same_end y q.endpoint.end) (g.id == q.endpoint.id) (is_response g.target.side) (g.request == q.request)
    ∙ go (is_response g.target.side)
  where
    go : (b : Bool) → (b && ((same_end y q.endpoint.end && (g.id == q.endpoint.id)) && (g.request == q.request)))
        ≡ is_it q (if b then Some (request_name y g.id g.request) else None)
    go true = request_turned (request_name y g.id g.request) q
    go false = refl
got_is q told asked = refl
