-- The columns of the wwPDB format, version 3.30, for each kind that the lexer reads.
--     Sort, FormatField     what a field holds, and where
--     format_of              the format's fields of a kind
--     written_in             the fields that a kind is written in: the format's, and the segment name of older versions
-- Columns count from 0, and `a ⋯ b` excludes b. The format counts from 1 and includes both ends: its own numbers stand in the comments, as
-- `a-b`, with how sure they are. A: the source of a package quotes the format's table for this record, and others agree. B: the code of two
-- packages uses these columns without quoting. C: from memory.
use Rattle.std.specs.Prelude.{ℕ, List, [], ◌∷◌, ◌++◌, map}
use Rattle.line.specs.Columns.{◌⋯◌, in_row}
use Rattle.line.specs.declared.columns.Columns.{Columns}
use Rattle.kind.specs.declared.Kind.{Kind}
use Rattle.kind.specs.declared.Kind.TheVariants.{Empty, Header, Remark, Atom, Hetatm, Anisou, Cryst1, Scale, Origx, Mtrix, Model, Master, Dbref, Dbref1, Dbref2, Seqres, Seqadv, Modres, Ssbond, Endmdl, Ter, End}

-- the format's Integer; its LString, String, Atom, Residue name, IDcode, Date and SymOP; its Character and AChar; its Real, with so many
-- decimals: Real(8.3) in its columns is `real 3`
pub data Sort : Type 0 where
  integer text character : Sort
  real : ℕ → Sort

infix 80 ◌at◌ ◌from◌
pub data FormatField : Type 0 where
  -- in its columns, and from a column to the line's end
  ◌at◌ : Sort → Columns → FormatField
  ◌from◌ : Sort → ℕ → FormatField

-- ---- the format's fields

-- 7-11 serial, 13-16 name, 17 altLoc, 18-20 resName, 22 chainID, 23-26 resSeq, 27 iCode (A)
abbrev atom_head : List FormatField
atom_head =
    integer at 6 ⋯ 11 ∷ text at 12 ⋯ 16 ∷ character at 16 ⋯ 17 ∷ text at 17 ⋯ 20
    ∷ character at 21 ⋯ 22 ∷ integer at 22 ⋯ 26 ∷ character at 26 ⋯ 27 ∷ []

-- 77-78 element, 79-80 charge (A)
abbrev atom_end : List FormatField
atom_end = text at 76 ⋯ 78 ∷ text at 78 ⋯ 80 ∷ []

-- 31-38 x, 39-46 y, 47-54 z, Real(8.3), 55-60 occupancy, 61-66 tempFactor, Real(6.2) (A)
abbrev atom_reals : List FormatField
atom_reals = real 3 at 30 ⋯ 38 ∷ real 3 at 38 ⋯ 46 ∷ real 3 at 46 ⋯ 54 ∷ real 2 at 54 ⋯ 60 ∷ real 2 at 60 ⋯ 66 ∷ []

-- 29-35 U11, 36-42 U22, 43-49 U33, 50-56 U12, 57-63 U13, 64-70 U23 (A)
abbrev atom_factors : List FormatField
atom_factors = map (λ columns. integer at columns) (in_row 6 7 28)

-- ATOM, HETATM and ANISOU by the numbers in their middle, with what older versions have behind these
abbrev atom_around : List FormatField → List FormatField → List FormatField
atom_around middle older = atom_head ++ middle ++ older ++ atom_end

-- 73-76 the segment name, up to version 2 (A)
abbrev segment_name : List FormatField
segment_name = text at 72 ⋯ 76 ∷ []

-- 11-20, 21-30, 31-40 a row of the matrix, Real(10.6), 46-55 the translation, Real(10.5) (A)
abbrev matrix_row : List FormatField
matrix_row = real 6 at 10 ⋯ 20 ∷ real 6 at 20 ⋯ 30 ∷ real 6 at 30 ⋯ 40 ∷ real 5 at 45 ⋯ 55 ∷ []

abbrev pub format_of : Kind → List FormatField
format_of Empty = []
-- 11-50 classification, 51-59 depDate, 63-66 idCode (A)
format_of Header = text at 10 ⋯ 50 ∷ text at 50 ⋯ 59 ∷ text at 62 ⋯ 66 ∷ []
-- 8-10 remarkNum (A), 12-79 the text (C, from memory)
format_of Remark = integer at 7 ⋯ 10 ∷ text at 11 ⋯ 79 ∷ []
format_of Atom = atom_around atom_reals []
format_of Hetatm = atom_around atom_reals []
format_of Anisou = atom_around atom_factors []
-- 7-15 a, 16-24 b, 25-33 c, Real(9.3), 34-40 alpha, 41-47 beta, 48-54 gamma, Real(7.2), 56-66 sGroup, 67-70 z (A)
format_of Cryst1 =
    real 3 at 6 ⋯ 15 ∷ real 3 at 15 ⋯ 24 ∷ real 3 at 24 ⋯ 33 ∷ real 2 at 33 ⋯ 40 ∷ real 2 at 40 ⋯ 47 ∷ real 2 at 47 ⋯ 54
    ∷ text at 55 ⋯ 66 ∷ integer at 66 ⋯ 70 ∷ []
format_of (Scale row) = matrix_row
format_of (Origx row) = matrix_row
-- 8-10 serial, 60 iGiven (A)
format_of (Mtrix row) = integer at 7 ⋯ 10 ∷ matrix_row ++ integer at 59 ⋯ 60 ∷ []
-- 11-14 serial (A)
format_of Model = integer at 10 ⋯ 14 ∷ []
-- 11-15 numRemark, 21-25 numHet, 26-30 numHelix, 31-35 numSheet, 36-40 numTurn, 41-45 numSite, 46-50 numXform, 51-55 numCoord, 56-60
-- numTer, 61-65 numConect, 66-70 numSeq (A); 16-20 a zero (C, from memory)
format_of Master = map (λ columns. integer at columns) (in_row 12 5 10)
-- 8-11 idCode, 13 chainID, 15-18 seqBegin, 21-24 seqEnd, 27-32 database, 34-41 dbAccession, 43-54 dbIdCode, 56-60 dbseqBegin, 63-67
-- dbseqEnd, and behind each of the four numbers its insertion code, 19, 25, 61 and 68 (A)
format_of Dbref =
    text at 7 ⋯ 11 ∷ character at 12 ⋯ 13 ∷ integer at 14 ⋯ 18 ∷ character at 18 ⋯ 19 ∷ integer at 20 ⋯ 24 ∷ character at 24 ⋯ 25
    ∷ text at 26 ⋯ 32 ∷ text at 33 ⋯ 41 ∷ text at 42 ⋯ 54
    ∷ integer at 55 ⋯ 60 ∷ character at 60 ⋯ 61 ∷ integer at 62 ⋯ 67 ∷ character at 67 ⋯ 68 ∷ []
-- 8-11 idCode, 13 chainID, 15-18 seqBegin and 19 its insertion code, 21-24 seqEnd and 25 its insertion code, 27-32 database, 48-67
-- dbIdCode (B)
format_of Dbref1 =
    text at 7 ⋯ 11 ∷ character at 12 ⋯ 13 ∷ integer at 14 ⋯ 18 ∷ character at 18 ⋯ 19 ∷ integer at 20 ⋯ 24 ∷ character at 24 ⋯ 25
    ∷ text at 26 ⋯ 32 ∷ text at 47 ⋯ 67 ∷ []
-- 8-11 idCode, 13 chainID, 19-40 dbAccession, 46-55 and 58-67 where the stretch begins and ends in the database (B)
format_of Dbref2 = text at 7 ⋯ 11 ∷ character at 12 ⋯ 13 ∷ text at 18 ⋯ 40 ∷ integer at 45 ⋯ 55 ∷ integer at 57 ⋯ 67 ∷ []
-- 8-10 serNum, 12 chainID, 14-17 numRes (B); thirteen residue names, 20-22, 24-26 and so on to 68-70 (A)
format_of Seqres =
    integer at 7 ⋯ 10 ∷ character at 11 ⋯ 12 ∷ integer at 13 ⋯ 17
    ∷ text at 19 ⋯ 22 ∷ text at 23 ⋯ 26 ∷ text at 27 ⋯ 30 ∷ text at 31 ⋯ 34 ∷ text at 35 ⋯ 38 ∷ text at 39 ⋯ 42 ∷ text at 43 ⋯ 46
    ∷ text at 47 ⋯ 50 ∷ text at 51 ⋯ 54 ∷ text at 55 ⋯ 58 ∷ text at 59 ⋯ 62 ∷ text at 63 ⋯ 66 ∷ text at 67 ⋯ 70 ∷ []
-- 8-11 idCode, 13-15 residue name, 17 chainID, 19-22 seqNum, 23 iCode, 25-28 database, 30-38 dbAccession, 40-42 dbRes, 44-48 dbSeq, 50-70
-- conflict (B)
format_of Seqadv =
    text at 7 ⋯ 11 ∷ text at 12 ⋯ 15 ∷ character at 16 ⋯ 17 ∷ integer at 18 ⋯ 22 ∷ character at 22 ⋯ 23
    ∷ text at 24 ⋯ 28 ∷ text at 29 ⋯ 38 ∷ text at 39 ⋯ 42 ∷ integer at 43 ⋯ 48 ∷ text at 49 ⋯ 70 ∷ []
-- 8-11 idCode, 13-15 residue name, 17 chainID, 19-22 seqNum, 23 iCode, 25-27 stdRes, 30-70 comment (B)
format_of Modres =
    text at 7 ⋯ 11 ∷ text at 12 ⋯ 15 ∷ character at 16 ⋯ 17 ∷ integer at 18 ⋯ 22 ∷ character at 22 ⋯ 23 ∷ text at 24 ⋯ 27 ∷ text at 29 ⋯ 70 ∷ []
-- 8-10 serNum, 12-14 `CYS`, 16 its chain, 18-21 its number, 22 its insertion code, 26-28 `CYS`, 30, 32-35 and 36 the same of the second,
-- 60-65 and 67-72 their operators (A); 74-78 Length, Real(5.2) (B)
format_of Ssbond =
    integer at 7 ⋯ 10 ∷ text at 11 ⋯ 14 ∷ character at 15 ⋯ 16 ∷ integer at 17 ⋯ 21 ∷ character at 21 ⋯ 22
    ∷ text at 25 ⋯ 28 ∷ character at 29 ⋯ 30 ∷ integer at 31 ⋯ 35 ∷ character at 35 ⋯ 36
    ∷ text at 59 ⋯ 65 ∷ text at 66 ⋯ 72 ∷ real 2 at 73 ⋯ 78 ∷ []
-- the name alone (A)
format_of Endmdl = []
-- 7-11 serial, 18-20 resName, 22 chainID, 23-26 resSeq, 27 iCode (B)
format_of Ter = integer at 6 ⋯ 11 ∷ text at 17 ⋯ 20 ∷ character at 21 ⋯ 22 ∷ integer at 22 ⋯ 26 ∷ character at 26 ⋯ 27 ∷ []
-- the name alone (A)
format_of End = []

-- ---- the fields that a kind is written in; of TER the name alone is written
abbrev pub written_in : Kind → List FormatField
written_in Empty = []
written_in Header = []
written_in Remark = []
written_in Atom = atom_around atom_reals segment_name
written_in Hetatm = atom_around atom_reals segment_name
written_in Anisou = atom_around atom_factors segment_name
written_in Cryst1 = format_of Cryst1
written_in (Scale row) = format_of (Scale row)
written_in (Origx row) = format_of (Origx row)
written_in (Mtrix row) = format_of (Mtrix row)
written_in Model = format_of Model
written_in Master = []
written_in Dbref = []
written_in Dbref1 = []
written_in Dbref2 = []
written_in Seqres = []
written_in Seqadv = []
written_in Modres = []
written_in Ssbond = []
written_in Endmdl = []
written_in Ter = []
written_in End = []
