-- The request id that a message says of its head: it stands in the header, unless the message is plain.
use Rattle.std.proofs.Common.{◌≡◌, ℕ, ℤ, Bool, true, false, List, [], ◌∷◌, ◌++◌, length, refl, ◌∙◌}
use Rattle.std.specs.Prelude.{Option, Some, None}
use Rattle.mj_base.specs.Bytes.{bytes32, bytes64, number32, number64}
use Rattle.wire_model.specs.Message.{Head, back_of, front, is_plain, message, plain_front, request_read, written_request}
use Rattle.compat_model.proofs.Lists.{by_test}

-- in a header of version 0 or 1
plain_request : (plain : Bool) (h : Head) (rest : List ℕ)
    → request_read (plain_front plain h ++ rest) ≡ written_request plain (number64 (plain_front plain h ++ rest) 24)
unfolding bytes32 bytes64 number32 number64
plain_request true h rest = refl
plain_request false h rest = refl

-- of version 2
ids_request : (plain : Bool) (i : ℕ) (is : List ℕ) (h : Head) (n : ℕ) (rest : List ℕ) → is_plain h.flags ≡ plain
    → request_read (front None (i ∷ is) h n ++ rest) ≡ written_request plain (number64 (front None (i ∷ is) h n ++ rest) 24)
unfolding bytes32 bytes64 number32 number64
ids_request true i is h n rest e = rw e refl
ids_request false i is h n rest e = refl

-- of version 3
timed_request : (plain : Bool) (moment : ℤ) (ids : List ℕ) (h : Head) (n : ℕ) (rest : List ℕ) → is_plain h.flags ≡ plain
    → request_read (front (Some moment) ids h n ++ rest) ≡ written_request plain (number64 (front (Some moment) ids h n ++ rest) 24)
unfolding bytes32 bytes64 number32 number64
timed_request true moment ids h n rest e = rw e refl
timed_request false moment ids h n rest e = refl

-- and of each
front_request : (moment : Option ℤ) (ids : List ℕ) (h : Head) (n : ℕ) (rest : List ℕ)
    → request_read (front moment ids h n ++ rest) ≡ written_request (is_plain h.flags) (number64 (front moment ids h n ++ rest) 24)
front_request None [] h n rest = plain_request (is_plain h.flags) h rest
front_request None (i ∷ is) h n rest = ids_request (is_plain h.flags) i is h n rest refl
front_request (Some moment) ids h n rest = timed_request (is_plain h.flags) moment ids h n rest refl

-- so the message says it, where it stands there
pub said_request : (h : Head) (payload : List ℕ) → (is_plain h.flags ≡ false → number64 (message h payload) 24 ≡ h.request)
    → request_read (message h payload) ≡ written_request (is_plain h.flags) h.request
said_request h payload there =
    front_request h.moment h.ids h (length payload) (payload ++ back_of h.ids)
    ∙ by_test (is_plain h.flags) (λ plain. written_request plain (number64 (message h payload) 24) ≡ written_request plain h.request) (λ _. refl) there
