-- Identifiers of instances (ISO 16739, IfcGloballyUniqueId): 22 digits in base 64 of a number of 128 bits.

use Rattle.std.specs.Prelude.{ℕ, zero, suc, ◌/◌, ◌%◌, ◌^◌, ◌++◌, List, [], ◌∷◌, codes, decimal, take, slice_index}
use Rattle.std.specs.Int.{from_be_bytes, w128}
use Rattle.sha1.specs.Sha1.{sha1}
use Rattle.uuid.specs.Parts.{with_version, with_variant}
use Rattle.uuid.specs.declared.Version.TheVariants as version
use Rattle.uuid.specs.declared.Variant.TheVariants as variant

-- the digits of base 64 in order of value
abbrev pub digits : List ℕ
digits = codes "0123456789ABCDEFGHIJKLMNOPQRSTUVWXYZabcdefghijklmnopqrstuvwxyz_$"

-- the digit of a value
abbrev pub digit_of : ℕ → ℕ
digit_of value = slice_index digits value

-- the digits of a number at the places below one, the most significant first
abbrev pub digits_below : ℕ → ℕ → List ℕ
digits_below zero value = []
digits_below (suc place) value =
    digit_of ((value / 64 ^ place) % 64) ∷ digits_below place value

-- how many digits an identifier has
abbrev pub guid_length : ℕ
guid_length = 22

-- the identifier of a number
unfoldable pub guid_of : ℕ → List ℕ
guid_of value = digits_below guid_length value

-- the namespace 00112233-4455-6677-8899-aabbccddeeff
abbrev pub namespace : List ℕ
namespace =
    0x00 ∷ 0x11 ∷ 0x22 ∷ 0x33 ∷ 0x44 ∷ 0x55 ∷ 0x66 ∷ 0x77 ∷ 0x88 ∷ 0x99 ∷ 0xaa ∷ 0xbb ∷ 0xcc
    ∷ 0xdd ∷ 0xee ∷ 0xff ∷ []

-- the identifier of a digest: the first 16 bytes of it as a version 5 UUID (RFC 9562)
unfoldable pub guid_of_digest : List ℕ → List ℕ
guid_of_digest digest =
    guid_of
    (from_be_bytes w128
    (with_version (with_variant (take 16 digest) variant.RFC4122) version.Sha1))

-- the identifier of a name: its version 5 UUID in the namespace
abbrev pub guid_of_name : List ℕ → List ℕ
guid_of_name name = guid_of_digest (sha1 (namespace ++ name))

-- the name of a boundary's relation: the space's GlobalId as read, a stroke, and the boundary's id
abbrev pub relation_name : List ℕ → ℕ → List ℕ
relation_name global_id id = global_id ++ codes "/" ++ decimal id

-- the name of the virtual element that stands in for an element
abbrev pub virtual_name : List ℕ → ℕ → List ℕ
virtual_name global_id id = relation_name global_id id ++ codes "/V"
