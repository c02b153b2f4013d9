-- The bytes that the grammar of tokens names, and its classes of bytes. White space is the bytes 9
-- to 13 and 32: ISO 10303-21 allows fewer there, and this project passes over them all.
use Rattle.std.specs.Prelude.{ℕ, Bool, ◌||◌, ◌==◌}
use Rattle.std.specs.Int.{is_in_range}
use Rattle.std.specs.Char.{is_ascii_digit, is_ascii_uppercase}

-- the first byte of white space
abbrev pub tab : ℕ
tab = 9

-- the last byte of white space but the space
abbrev pub carriage_return : ℕ
carriage_return = 13

-- a byte of white space
abbrev pub space : ℕ
space = 32

-- before a keyword that a user defines
abbrev pub exclamation : ℕ
exclamation = 33

-- around a binary
abbrev pub quote : ℕ
quote = 34

-- before the number of an instance
abbrev pub hash : ℕ
hash = 35

-- a value that is not given
abbrev pub dollar : ℕ
dollar = 36

-- around a string
abbrev pub apostrophe : ℕ
apostrophe = 39

-- before a list
abbrev pub open_parenthesis : ℕ
open_parenthesis = 40

-- behind a list
abbrev pub close_parenthesis : ℕ
close_parenthesis = 41

-- a value that is derived; also within the brackets of comments
abbrev pub asterisk : ℕ
asterisk = 42

-- a sign
abbrev pub plus : ℕ
plus = 43

-- between the values of a list
abbrev pub comma : ℕ
comma = 44

-- a sign, and in the two words
abbrev pub minus : ℕ
minus = 45

-- in a real, and around an enumeration
abbrev pub point : ℕ
point = 46

-- the first and the last byte of a comment
abbrev pub slash : ℕ
slash = 47

-- the first of the digits, and of those that may begin a binary
abbrev pub zero : ℕ
zero = 48

-- the last digit that may begin a binary
abbrev pub three : ℕ
three = 51

-- the last of the digits
abbrev pub nine : ℕ
nine = 57

-- behind an instance
abbrev pub semicolon : ℕ
semicolon = 59

-- behind the name of an instance
abbrev pub equals : ℕ
equals = 61

-- the first capital letter, and a digit of a binary
abbrev pub capital_a : ℕ
capital_a = 65

-- before an exponent
abbrev pub capital_e : ℕ
capital_e = 69

-- the last digit of a binary
abbrev pub capital_f : ℕ
capital_f = 70

-- the last capital letter
abbrev pub capital_z : ℕ
capital_z = 90

-- a letter among the letters of keywords
abbrev pub underscore : ℕ
underscore = 95

-- what a keyword or an enumeration begins with
abbrev pub is_letter : ℕ → Bool
is_letter b = is_ascii_uppercase b || b == underscore

-- what it goes on with
abbrev pub is_word_byte : ℕ → Bool
is_word_byte b = is_letter b || is_ascii_digit b

-- a digit of a binary, a to f only as capitals
abbrev pub is_hex : ℕ → Bool
is_hex b = is_ascii_digit b || is_in_range capital_a capital_f b

-- how many of the first four bits of a binary are filling: from 0 to 3
abbrev pub is_filling : ℕ → Bool
is_filling b = is_in_range zero three b

-- what may stand before a number
abbrev pub is_sign : ℕ → Bool
is_sign b = b == plus || b == minus

-- a tab, a line feed, bytes 11 and 12, a carriage return or a space
abbrev pub is_white : ℕ → Bool
is_white b = is_in_range tab carriage_return b || b == space

-- what a string begins and ends with
abbrev pub is_apostrophe : ℕ → Bool
is_apostrophe b = b == apostrophe
