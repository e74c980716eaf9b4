-- The bytes of a text as lines, and the words of a line: numbers, registers, names, masks.
use Rattle.std.specs.Prelude.{◌≡◌, ℕ, ◌+◌, ◌*◌, ◌^◌, ◌<◌, ◌≤◌, ◌==◌, ◌&&◌, ◌||◌, nat_le, Bool, true, false, not, if◌then◌else◌, List, [], ◌∷◌, ◌++◌, length, filter, take_while, codes}
use Rattle.std.specs.List.{list_all}
use Rattle.std.specs.Fmt.{decimal}

-- the byte in front of the first part
abbrev pub onto_first : ℕ → List (List ℕ) → List (List ℕ)
onto_first c [] = (c ∷ []) ∷ []
onto_first c (part ∷ parts) = (c ∷ part) ∷ parts

-- the parts of a text between the bytes that pass the test
abbrev pub parted_by : (ℕ → Bool) → List ℕ → List (List ℕ)
parted_by p [] = [] ∷ []
parted_by p (c ∷ cs) = if p c then [] ∷ parted_by p cs else onto_first c (parted_by p cs)

abbrev pub is_line_feed : ℕ → Bool
is_line_feed c = c == 10

-- space, tab and carriage return
abbrev pub is_blank : ℕ → Bool
is_blank c = c == 32 || c == 9 || c == 13

abbrev pub is_printable : ℕ → Bool
is_printable c = nat_le 33 c && nat_le c 126

-- the lines of a text, without their line feeds
abbrev pub lines_of : List ℕ → List (List ℕ)
lines_of bytes = parted_by is_line_feed bytes

-- a line up to the # that begins its comment
abbrev pub before_comment : List ℕ → List ℕ
before_comment line = take_while (λ c. not (c == 35)) line

-- outside its comment a line has blanks and printable bytes alone
abbrev pub is_proper : List ℕ → Bool
is_proper line = list_all (λ c. is_blank c || is_printable c) (before_comment line)

abbrev pub is_empty : {A : Type 0} → List A → Bool
is_empty [] = true
is_empty (x ∷ xs) = false

-- the words of a line: the longest runs of bytes between blanks
abbrev pub words_of : List ℕ → List (List ℕ)
words_of line = filter (λ word. not (is_empty word)) (parted_by is_blank (before_comment line))

-- a number is its decimal spelling, and below 2 ^ 64
abbrev pub IsNumber : List ℕ → ℕ → Type 0
IsNumber word n = (word ≡ decimal n) × (n < 2 ^ 64)

-- r0 to r15
abbrev pub IsRegister : List ℕ → ℕ → Type 0
IsRegister word r = (word ≡ codes "r" ++ decimal r) × (r ≤ 15)

abbrev pub is_letter : ℕ → Bool
is_letter c = (nat_le 65 c && nat_le c 90) || (nat_le 97 c && nat_le c 122)

abbrev pub is_name_byte : ℕ → Bool
is_name_byte c = is_letter c || (nat_le 48 c && nat_le c 57) || c == 95

-- a letter, and up to 31 letters, digits or underscores
abbrev pub is_name : List ℕ → Bool
is_name [] = false
is_name (c ∷ cs) = is_letter c && list_all is_name_byte cs && nat_le (length cs) 31

-- a byte of a mask: r stands for a reference, a dot for a number
abbrev pub is_mask_byte : ℕ → Bool
is_mask_byte c = c == 114 || c == 46

-- bit i is set where byte i is r
abbrev pub mask_bits : List ℕ → ℕ
mask_bits [] = 0
mask_bits (c ∷ cs) = (if c == 114 then 1 else 0) + 2 * mask_bits cs
