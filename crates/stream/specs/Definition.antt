-- What the streams of a program come to.
--
--   Opened r           nothing was read or written, and nothing has ended or failed
--   Stands s r         r has ended and failed where s has
--   Still s r          between s and r, nothing was read or written
--   Took s y r         after s, y was read
--   Gave s l r         after s, l was written
--   Marks k s n r      after s, n bytes came where k were wanted at least: if they did not all come, the end of the
--                      input was met or a read failed
--   Reads k s y n r    .. and they are the first of y
--   Lost s r           after s, a write failed
--   Writes s l r       after s, l was written, or the start of it if a write failed
--   IsPrefixLen n l    l has at least n, and so its first n are n: the words of the library's own contracts
use Rattle.std.specs.Prelude.{◌≡◌, ℕ, ◌<◌, ◌≤◌, true, false, List, [], ◌++◌, length, take}
use Rattle.stream.specs.declared.Stream.{Stream}
use Rattle.stream.specs.Trace.{Trace}

pub record Opened (r : Stream) : Type 0 where
  pub trace : Trace r [] []
  pub ended : r.ended ≡ false
  pub unread : r.unread ≡ false
  pub unwritten : r.unwritten ≡ false

pub record Stands (s r : Stream) : Type 0 where
  pub ended : r.ended ≡ s.ended
  pub unread : r.unread ≡ s.unread
  pub unwritten : r.unwritten ≡ s.unwritten

abbrev pub Still : Stream → Stream → Type 0
Still s r = (c o : List ℕ) → Trace s c o → Trace r c o

pub record Took (s : Stream) (y : List ℕ) (r : Stream) : Type 0 where
  pub stands : Stands s r
  pub trace : (c o : List ℕ) → Trace s c o → Trace r (c ++ y) o

pub record Gave (s : Stream) (l : List ℕ) (r : Stream) : Type 0 where
  pub stands : Stands s r
  pub trace : (c o : List ℕ) → Trace s c o → Trace r c (o ++ l)

pub record Marks (k : ℕ) (s : Stream) (n : ℕ) (r : Stream) : Type 0 where
  pub enough : k ≤ n → Stands s r
  pub short : n < k → r.unread ≡ false → r.ended ≡ true
  pub failed : s.unread ≡ false → r.unread ≡ true → r.ended ≡ s.ended
  pub unwritten : r.unwritten ≡ s.unwritten

pub record Reads (k : ℕ) (s : Stream) (y : List ℕ) (n : ℕ) (r : Stream) : Type 0 where
  pub marks : Marks k s n r
  pub trace : (c o : List ℕ) → Trace s c o → Trace r (c ++ take n y) o

pub record Lost (s r : Stream) : Type 0 where
  pub ended : r.ended ≡ s.ended
  pub unread : r.unread ≡ s.unread
  pub unwritten : r.unwritten ≡ true
  pub trace : Still s r

pub record Writes (s : Stream) (l : List ℕ) (r : Stream) : Type 0 where
  pub ended : r.ended ≡ s.ended
  pub unread : r.unread ≡ s.unread
  pub whole : r.unwritten ≡ false → (c o : List ℕ) → Trace s c o → Trace r c (o ++ l)
  pub part : (n : ℕ) × ((c o : List ℕ) → Trace s c o → Trace r c (o ++ take n l))

abbrev pub IsPrefixLen : ℕ → List ℕ → Type 0
IsPrefixLen n l = (n ≤ length l) × (n ≡ length (take n l))
