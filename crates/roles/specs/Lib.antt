-- The roles of a spine, chosen first; what else measuring leaves serves the drawer alone, whose contract does not cite it.
pub mod Chosen
pub mod inner
