-- What the loop over blocks keeps. Where it is known which bytes a reader has left, before and after, `new` are those that it gave;
-- where it is not, `new` stands for them.
use Rattle.std.specs.Prelude.{ℕ, suc, ◌-◌, ◌%◌, ◌<◌, ◌≡◌, Bool, true, false, List, ◌++◌, length, Some, None, IsSome}
use Rattle.std.specs.declared.option.Option.{Option}
use Rattle.std.specs.Io.KnownBytes.{Consumes, IsAtEnd}
use Rattle.program.specs.declared.body.Body.{Body}
use Rattle.program.specs.declared.body.Document.{Document}
use Rattle.program.specs.Bodies.{Took}

-- What one body led to: it took some bytes more, where there is more to read no event straddles, and otherwise all was read,
-- unless bytes came after the record.
pub record TookMore (document : Document) (before : Body) (there : List ℕ) (left after : Option (List ℕ)) (body : Body) (more : Bool) : Type 0 where
  pub new : List ℕ
  pub gave : Consumes left after new
  pub took : (bytes : List ℕ) → Took document.file.now document.book.now document.size before bytes → length bytes % 2 ≡ 0
      → Took document.file.now document.book.now document.size body (bytes ++ (there ++ new))
  pub even : more ≡ true → length (there ++ new) % 2 ≡ 0
  pub at_end : more ≡ false → IsSome body.taken → IsAtEnd after

-- how many bytes of the record are left, one more, or none where there is no more to read
unfoldable pub left : Bool → ℕ → Option ℕ → ℕ
left true size (Some taken) = suc (size - taken)
left true size None = 1
left false size taken = 0

-- one block: its bytes were taken, and where there is more to read, fewer of the record are left
pub record OneBlock (document : Document) (before : Body) (there : List ℕ) (start after : Option (List ℕ)) (body : Body) (more : Bool) : Type 0 where
  pub went : TookMore document before there start after body more
  pub fewer : left more document.size body.taken < left true document.size before.taken

-- all blocks: there is no more to read
abbrev pub AllBlocks : Document → Body → List ℕ → Option (List ℕ) → Option (List ℕ) → Body → Type 0
AllBlocks document before there start after body = TookMore document before there start after body false
