-- What a loan and a return leave as it was.
use Rattle.std.specs.Prelude.{◌≡◌, ◌≢◌, ℕ, List, Option, Bool}
use Rattle.disk_base.specs.Images.{SameImages}

-- a disk as it was given back: what a read gives, its images, whether it keeps synced bytes and its count stay
pub record IsGivenBack {D : Type 0} (reads : D → Option (List ℕ)) (may_leave : D → List ℕ → Type 0) (keeps_synced : D → Bool) (faults : D → ℕ) (disk there : D) : Type 0 where
  pub reads_same : reads there ≡ reads disk
  pub images : SameImages (may_leave disk) (may_leave there)
  pub keeps : keeps_synced there ≡ keeps_synced disk
  pub count : faults there ≡ faults disk

-- what a rack says of one number stays
pub record NumberStays {R D : Type 0} (lent_under : R → ℕ → Option (List ℕ) → Type 0) (disk_faults : R → Option (List ℕ) → ℕ → ℕ) (disk_at : R → Option (List ℕ) → ℕ → Option D) (old new : R) (number : ℕ) : Type 0 where
  pub lent : (folder : Option (List ℕ)) → lent_under old number folder → lent_under new number folder
  pub only_lent : (folder : Option (List ℕ)) → lent_under new number folder → lent_under old number folder
  pub count : (folder : Option (List ℕ)) → disk_faults new folder number ≡ disk_faults old folder number
  pub disk : (folder : Option (List ℕ)) → disk_at new folder number ≡ disk_at old folder number

-- and so of each other number
abbrev pub OthersStay : {R D : Type 0} (lent_under : R → ℕ → Option (List ℕ) → Type 0) (disk_faults : R → Option (List ℕ) → ℕ → ℕ) (disk_at : R → Option (List ℕ) → ℕ → Option D) (old new : R) → ℕ → Type 0
OthersStay lent_under disk_faults disk_at old new number = (other : ℕ) → other ≢ number → NumberStays lent_under disk_faults disk_at old new other
