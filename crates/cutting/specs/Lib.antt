-- Cutting a leaf off (document 02, Papers 5 and 8): what the call refuses, and every byte afterwards.
pub mod Cutting
