-- The request id that a message says of its head.
use Rattle.std.proofs.Common.{◌≡◌, ℕ, ℤ, ◌+◌, ◌*◌, ◌/◌, ◌%◌, ◌^◌, ◌<◌, Bool, true, false, List, [], ◌∷◌, ◌++◌, length, refl, ◌∙◌, arith}
use Rattle.std.specs.Prelude.{Option, Some, None}
use Rattle.mj_base.specs.Bytes.{bytes32, bytes64, number32, number64}
use Rattle.wire_model.specs.Message.{Head, back_of, front, is_plain, message, plain_front, request_read, written_request}

-- the four bytes of a number
digits : (n : ℕ) → n % 256 + 2 ^ 8 * (n / 256 % 256) + 2 ^ 16 * (n / 65536 % 256) + 2 ^ 24 * (n / 16777216 % 256) ≡ n % 2 ^ 32
digits n = omega arith

-- the eight
digits64 : (n : ℕ) → n % 2 ^ 32 + 2 ^ 32 * (n / 4294967296 % 2 ^ 32) ≡ n % 2 ^ 64
digits64 n = omega arith

-- a request id as its eight bytes say it
abbrev in_bytes : Bool → ℕ → ℕ
in_bytes true request = 0
in_bytes false request = request % 2 ^ 64

-- in a header of version 0 or 1
plain_request : (plain : Bool) (h : Head) (rest : List ℕ) → request_read (plain_front plain h ++ rest) ≡ in_bytes plain h.request
unfolding bytes32 bytes64 number32 number64
plain_request true h rest = refl
plain_request false h rest = omega (arith, digits h.request, digits (h.request / 4294967296), digits64 h.request)

-- of version 2
ids_request : (plain : Bool) (i : ℕ) (is : List ℕ) (h : Head) (n : ℕ) (rest : List ℕ) → is_plain h.flags ≡ plain
    → request_read (front None (i ∷ is) h n ++ rest) ≡ in_bytes plain h.request
unfolding bytes32 bytes64 number32 number64
ids_request true i is h n rest e = rw e refl
ids_request false i is h n rest e = rw e (omega (arith, digits h.request, digits (h.request / 4294967296), digits64 h.request))

-- of version 3
timed_request : (plain : Bool) (moment : ℤ) (ids : List ℕ) (h : Head) (n : ℕ) (rest : List ℕ) → is_plain h.flags ≡ plain
    → request_read (front (Some moment) ids h n ++ rest) ≡ in_bytes plain h.request
unfolding bytes32 bytes64 number32 number64
timed_request true moment ids h n rest e = rw e refl
timed_request false moment ids h n rest e = rw e (omega (arith, digits h.request, digits (h.request / 4294967296), digits64 h.request))

-- and of each
front_request : (moment : Option ℤ) (ids : List ℕ) (h : Head) (n : ℕ) (rest : List ℕ)
    → request_read (front moment ids h n ++ rest) ≡ in_bytes (is_plain h.flags) h.request
front_request None [] h n rest = plain_request (is_plain h.flags) h rest
front_request None (i ∷ is) h n rest = ids_request (is_plain h.flags) i is h n rest refl
front_request (Some moment) ids h n rest = timed_request (is_plain h.flags) moment ids h n rest refl

-- below 2 ^ 64 it is the one that was written
as_written : (plain : Bool) (request : ℕ) → request < 2 ^ 64 → in_bytes plain request ≡ written_request plain request
as_written true request small = refl
as_written false request small = omega (arith, small)

-- so a message says it
pub said_request : (h : Head) (payload : List ℕ) → h.request < 2 ^ 64 → request_read (message h payload) ≡ written_request (is_plain h.flags) h.request
said_request h payload small =
    front_request h.moment h.ids h (length payload) (payload ++ back_of h.ids) ∙ as_written (is_plain h.flags) h.request small
