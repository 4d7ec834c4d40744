-- What the header of a message says of its head, whatever that is.
use Rattle.std.proofs.Common.{◌≡◌, ℕ, ℤ, ◌+◌, ◌*◌, ◌/◌, ◌%◌, ◌^◌, Bool, true, false, List, [], ◌∷◌, ◌++◌, length, refl, arith}
use Rattle.std.specs.Prelude.{Option, Some, None}
use Rattle.mj_base.specs.Bytes.{bytes32, bytes64, number32, number64}
use Rattle.wire_model.specs.HeaderMarks.{CONTROL_ID}
use Rattle.wire_model.specs.Message.{Head, is_plain, plain_front, front, back_of, message, request_read}
use Rattle.control_bytes.specs.Controls.{written_control}
use Rattle.control_bytes.specs.declared.control.Control.{Control}
use Rattle.control_bytes.specs.declared.control.Control.TheVariants as says

-- the four bytes of a number
digits : (n : ℕ) → n % 256 + 2 ^ 8 * (n / 256 % 256) + 2 ^ 16 * (n / 65536 % 256) + 2 ^ 24 * (n / 16777216 % 256) ≡ n % 2 ^ 32
digits n = omega arith

-- the eight
digits64 : (n : ℕ) → n % 2 ^ 32 + 2 ^ 32 * (n / 4294967296 % 2 ^ 32) ≡ n % 2 ^ 64
digits64 n = omega arith

-- ## The numbers that each version has

plain_id : (plain : Bool) (h : Head) (rest : List ℕ) → number32 (plain_front plain h ++ rest) 8 ≡ h.interface % 2 ^ 32
unfolding bytes32 bytes64 number32
plain_id true h rest = digits h.interface
plain_id false h rest = digits h.interface

front_id : (moment : Option ℤ) (ids : List ℕ) (h : Head) (n : ℕ) (rest : List ℕ) → number32 (front moment ids h n ++ rest) 8 ≡ h.interface % 2 ^ 32
unfolding bytes32 bytes64 number32
front_id None [] h n rest = plain_id (is_plain h.flags) h rest
front_id None (i ∷ is) h n rest = digits h.interface
front_id (Some moment) ids h n rest = digits h.interface

pub said_id : (h : Head) (payload : List ℕ) → number32 (message h payload) 8 ≡ h.interface % 2 ^ 32
said_id h payload = front_id h.moment h.ids h (length payload) (payload ++ back_of h.ids)

plain_name : (plain : Bool) (h : Head) (rest : List ℕ) → number32 (plain_front plain h ++ rest) 12 ≡ h.name % 2 ^ 32
unfolding bytes32 bytes64 number32
plain_name true h rest = digits h.name
plain_name false h rest = digits h.name

front_name : (moment : Option ℤ) (ids : List ℕ) (h : Head) (n : ℕ) (rest : List ℕ) → number32 (front moment ids h n ++ rest) 12 ≡ h.name % 2 ^ 32
unfolding bytes32 bytes64 number32
front_name None [] h n rest = plain_name (is_plain h.flags) h rest
front_name None (i ∷ is) h n rest = digits h.name
front_name (Some moment) ids h n rest = digits h.name

pub said_name : (h : Head) (payload : List ℕ) → number32 (message h payload) 12 ≡ h.name % 2 ^ 32
said_name h payload = front_name h.moment h.ids h (length payload) (payload ++ back_of h.ids)

plain_flags : (plain : Bool) (h : Head) (rest : List ℕ) → number32 (plain_front plain h ++ rest) 16 ≡ h.flags % 2 ^ 32
unfolding bytes32 bytes64 number32
plain_flags true h rest = digits h.flags
plain_flags false h rest = digits h.flags

front_flags : (moment : Option ℤ) (ids : List ℕ) (h : Head) (n : ℕ) (rest : List ℕ) → number32 (front moment ids h n ++ rest) 16 ≡ h.flags % 2 ^ 32
unfolding bytes32 bytes64 number32
front_flags None [] h n rest = plain_flags (is_plain h.flags) h rest
front_flags None (i ∷ is) h n rest = digits h.flags
front_flags (Some moment) ids h n rest = digits h.flags

pub said_flags : (h : Head) (payload : List ℕ) → number32 (message h payload) 16 ≡ h.flags % 2 ^ 32
said_flags h payload = front_flags h.moment h.ids h (length payload) (payload ++ back_of h.ids)

-- ## The request id

-- the request id that a header says of this one
abbrev pub request_as : Bool → ℕ → ℕ
request_as true request = 0
request_as false request = request % 2 ^ 64

plain_request : (plain : Bool) (h : Head) (rest : List ℕ) → request_read (plain_front plain h ++ rest) ≡ request_as plain h.request
unfolding bytes32 bytes64 number32 number64
plain_request true h rest = refl
plain_request false h rest = omega (arith, digits h.request, digits (h.request / 4294967296), digits64 h.request)

ids_request : (plain : Bool) (i : ℕ) (is : List ℕ) (h : Head) (n : ℕ) (rest : List ℕ) → is_plain h.flags ≡ plain
    → request_read (front None (i ∷ is) h n ++ rest) ≡ request_as plain h.request
unfolding bytes32 bytes64 number32 number64
ids_request true i is h n rest e = rw e refl
ids_request false i is h n rest e = rw e (omega (arith, digits h.request, digits (h.request / 4294967296), digits64 h.request))

timed_request : (plain : Bool) (moment : ℤ) (ids : List ℕ) (h : Head) (n : ℕ) (rest : List ℕ) → is_plain h.flags ≡ plain
    → request_read (front (Some moment) ids h n ++ rest) ≡ request_as plain h.request
unfolding bytes32 bytes64 number32 number64
timed_request true moment ids h n rest e = rw e refl
timed_request false moment ids h n rest e = rw e (omega (arith, digits h.request, digits (h.request / 4294967296), digits64 h.request))

front_request : (moment : Option ℤ) (ids : List ℕ) (h : Head) (n : ℕ) (rest : List ℕ)
    → request_read (front moment ids h n ++ rest) ≡ request_as (is_plain h.flags) h.request
front_request None [] h n rest = plain_request (is_plain h.flags) h rest
front_request None (i ∷ is) h n rest = ids_request (is_plain h.flags) i is h n rest refl
front_request (Some moment) ids h n rest = timed_request (is_plain h.flags) moment ids h n rest refl

pub said_request : (h : Head) (payload : List ℕ) → request_read (message h payload) ≡ request_as (is_plain h.flags) h.request
said_request h payload = front_request h.moment h.ids h (length payload) (payload ++ back_of h.ids)

-- ## Controls

pub control_says : (c : Control) → number32 (written_control c) 8 ≡ CONTROL_ID
unfolding bytes32 bytes64 number32
control_says (says.Closed id) = refl
control_says (says.Query id) = refl
control_says (says.Version id v) = refl
control_says (says.Require id v) = refl
control_says (says.Flush k) = refl

pub control_request : (c : Control) → request_read (written_control c) ≡ 0
unfolding bytes32 bytes64 number32
control_request (says.Closed id) = refl
control_request (says.Query id) = refl
control_request (says.Version id v) = refl
control_request (says.Require id v) = refl
control_request (says.Flush k) = refl
