-- What a contract sees of a space's fields, and what is true of them.
use Rattle.std.specs.Prelude.{◌≡◌, ℕ, ◌≤◌, ◌<◌, ◌⊎◌, vec_capacity, length, slice_index}
use Rattle.sg_space.specs.declared.space.Space.TheInside.{Inside}
use Rattle.sg_space.specs.Space.{Contents, IsContents}
use Rattle.sg_space.specs.Passed.{IsPassedIn}

abbrev pub contents_of : Inside → Contents
contents_of a = record {
  layout = a.layout;
  shapes = a.shapes.items;
  words = a.words.items;
  next = a.next.items;
  ends = a.ends.items;
  stop = a.stop;
  blocks = a.blocks.items;
  used = a.used.items;
  marks = a.marks.items;
  cards = a.cards.items;
  pages = a.pages.items;
  head = a.head;
  made = a.made;
  registered = a.registered.items;
  pairs = a.pairs.items;
}

-- room for all fragments and registrations is taken, each card out of the range that may be dirty is clean, and so many blocks from 0 on as are kept
-- for one size are passed over in a search for a slot of that size
pub record IsSpace (a : Inside) : Type 0 where
  pub contents : IsContents (contents_of a)
  pub room_next : 2048 ≤ vec_capacity a.next
  pub room_ends : 2048 ≤ vec_capacity a.ends
  pub room_registered : 1024 ≤ vec_capacity a.registered
  pub within : a.dirty_to ≤ length a.cards.items
  pub clean : (c : ℕ) → (c < a.dirty_from) ⊎ (a.dirty_to ≤ c) → slice_index a.cards.items c ≡ 0
  pub passed : (c : ℕ) → c < a.passed → IsPassedIn (contents_of a) a.passed_size c
  pub few : a.passed ≤ length a.blocks.items
