-- The tag in an object's first word.
use Rattle.std.specs.Prelude.{◌≡◌, ℕ, ◌+◌, ◌*◌, ◌<◌, Option, Some, None}
use Rattle.sg_words.specs.Address.{IsAddress}
use Rattle.sg_words.specs.declared.tags.Tag.{Tag}
use Rattle.sg_words.specs.declared.tags.Tag.TheVariants.{Plain, Forwarded, Pinned, Cemented}

-- the first word of an object of class c to which nothing has happened
abbrev pub plain_word : ℕ → ℕ
plain_word c = 8 * (c + 1)

-- the first word of a pinned object of class c
abbrev pub pinned_word : ℕ → ℕ
pinned_word c = plain_word c + 2

-- what stands in the place of an object that was copied to the address a
abbrev pub forward_word : ℕ → ℕ
forward_word a = a + 1

-- a class is a number from 0 to 255, and a copy has an address
abbrev pub IsTag : Tag → Type 0
IsTag (Plain c) = c < 256
IsTag (Forwarded a) = IsAddress a
IsTag (Pinned c) = c < 256
IsTag (Cemented c) = c < 256

-- the word of a tag
abbrev pub tag_word : Tag → ℕ
tag_word (Plain c) = plain_word c
tag_word (Forwarded a) = forward_word a
tag_word (Pinned c) = pinned_word c
tag_word (Cemented c) = plain_word c + 4

-- the answer is the tag with this word, or none where no tag has it
abbrev pub ReadsTag : Option Tag → ℕ → Type 0
ReadsTag (Some tag) word = IsTag tag × (tag_word tag ≡ word)
ReadsTag None word = (tag : Tag) → IsTag tag → tag_word tag ≡ word → ⊥

-- the answer is the class with this word among the words of classes, or none where no class has it
abbrev pub ReadsClass : (ℕ → ℕ) → Option ℕ → ℕ → Type 0
ReadsClass word_of (Some class) word = (class < 256) × (word_of class ≡ word)
ReadsClass word_of None word = (class : ℕ) → class < 256 → word_of class ≡ word → ⊥

-- the answer is the address to which this word forwards, or none where it forwards to none
abbrev pub ReadsForward : Option ℕ → ℕ → Type 0
ReadsForward (Some to) word = IsAddress to × (forward_word to ≡ word)
ReadsForward None word = (to : ℕ) → IsAddress to → forward_word to ≡ word → ⊥
